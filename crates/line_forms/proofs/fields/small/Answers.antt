-- `line_forms::fields::small` meets its contract.
use native.Mathlib.Omega.{arith}
use Rattle.text.specs.Cursors.{fields_left}
use Rattle.line_forms.proofs.FieldSteps.{small_is, small-wrong, number_fits}
use Rattle.line_forms.proofs.fields.small.Goals as goal

pub returns-in_err-v : goal.returns-in_err-v
returns-in_err-v c = rw c.from_residual.ensures (small-wrong _ _ _ _ (rw c.from.ensures at c.number.ensures) c.in_err-v.was)

pub overflow_cast-result : goal.overflow_cast-result
overflow_cast-result c =
    omega (arith, number_fits c.args.s.now c.args.max (fields_left c.args.s.now c.args.c) _ (rw c.from.ensures at c.number.ensures) c.in_ok-v.was)

pub returns : goal.returns
returns c = small_is _ _ _ _ (rw c.from.ensures at c.number.ensures) c.in_ok-v.was
