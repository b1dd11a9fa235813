-- `line_forms::fields::placed` meets its contract.
use native.Mathlib.Omega.{arith}
use Rattle.text.specs.Cursors.{part_read}
use Rattle.line_forms.proofs.FieldSteps.{placed-is, placed-empty, placed-within}
use Rattle.line_forms.specs.Forms.{piece_read}
use Rattle.line_forms.proofs.fields.placed.Goals as goal

pub returns-in_err-p : goal.returns-in_err-p
unfolding piece_read part_read
returns-in_err-p c = rw (c.from_residual.ensures, c.in_err-p.was)

pub overflow_cast-result : goal.overflow_cast-result
overflow_cast-result c = omega (arith, placed-within c.args.s.now _ c.in_ok-p.was c.requires.1 c.if-p.true, c.requires.0)

pub overflow_cast-result-then-p : goal.overflow_cast-result-then-p
overflow_cast-result-then-p c = omega (arith, placed-within c.args.s.now _ c.in_ok-p.was c.requires.1 c.if-p.true, c.requires.0)

pub returns-then-p : goal.returns-then-p
returns-then-p c = placed-is _ _ c.in_ok-p.was

pub returns-else-p : goal.returns-else-p
returns-else-p c = placed-empty _ _ c.in_ok-p.was (omega arith)
