-- `line_forms::fields::method_name` meets its contract.
use Rattle.line_forms.proofs.FieldSteps.{method-wrong, method-blank, method-is, exact-is}
use Rattle.line_forms.proofs.fields.method_name.Goals as goal

pub returns-in_err-p : goal.returns-in_err-p
returns-in_err-p c = rw c.from_residual.ensures (method-wrong _ _ _ c.name.ensures.result_value c.in_err-p.was)

pub placed-requires : goal.placed-requires
placed-requires c = (c.requires, exact-is _ _ c.in_ok-p.was c.name.ensures.exact)

pub returns-then-blank : goal.returns-then-blank
returns-then-blank c = method-blank _ _ _ c.name.ensures.result_value c.in_ok-p.was c.blank.ensures c.if-blank.true

pub returns-else-blank : goal.returns-else-blank
returns-else-blank c =
    method-is _ _ _ c.name.ensures.result_value c.in_ok-p.was c.blank.ensures c.if-blank.false c.placed.ensures
