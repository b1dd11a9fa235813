-- `line_forms::fields::package` meets its contract.
use native.Mathlib.Omega.{arith}
use Rattle.objects.specs.Bounds.{max_reference}
use Rattle.text.specs.Cursors.{fields_left}
use Rattle.line_forms.proofs.FieldSteps.{package-none, package-is, package-wrong, number_fits}
use Rattle.line_forms.proofs.fields.package.Goals as goal

pub returns-in-Some : goal.returns-in-Some
returns-in-Some c = package-none _ _ _ c.word.ensures c.in-Some.is

pub returns-in_err-v : goal.returns-in_err-v
returns-in_err-v c = rw c.from_residual.ensures (package-wrong _ _ _ _ c.word.ensures c.in_default.is (rw c.from.ensures at c.number.ensures) c.in_err-v.was)

pub overflow_cast-result : goal.overflow_cast-result
overflow_cast-result c =
    omega (arith, number_fits c.args.s.now max_reference (fields_left c.args.s.now c.args.c) _ (rw c.from.ensures at c.number.ensures) c.in_ok-v.was)

pub returns : goal.returns
returns c = package-is _ _ _ _ c.word.ensures c.in_default.is (rw c.from.ensures at c.number.ensures) c.in_ok-v.was
