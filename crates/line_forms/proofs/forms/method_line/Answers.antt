-- `line_forms::forms::method_line` meets its contract.
use mathlib.Core.Path.{refl, sym, ◌∙◌}
use native.Mathlib.Omega.{arith}
use Rattle.objects.specs.Rows.{bytes_at}
use Rattle.line_forms.proofs.Chain.{piece-on, piece-out, typed-on, typed-out, form-ended, unread-ended, form-out, unread-out}
use Rattle.line_forms.proofs.FieldSteps.{bit-fits}
use Rattle.line_forms.specs.Steps.{method_rest}
use Rattle.line_forms.specs.Forms.{form_meant, unread}
use Rattle.line_forms.proofs.forms.method_line.Goals as goal

pub returns-in_err-name : goal.returns-in_err-name
unfolding method_rest
returns-in_err-name c =
    record { result_value = form-out _ c.from_residual.ensures (piece-out _ _ c.method_name.ensures c.in_err-name.was); result_value_2 = unread-out _ c.from_residual.ensures }

pub returns-in_err-sig : goal.returns-in_err-sig
unfolding method_rest
returns-in_err-sig c =
    record { result_value = form-out _ c.from_residual-in_err-sig.ensures (piece-on _ _ c.method_name.ensures c.in_ok-name.was ∙ typed-out _ _ c.typed.ensures c.in_err-sig.was); result_value_2 = unread-out _ c.from_residual-in_err-sig.ensures }

pub overflow_add-sig : goal.overflow_add-sig
overflow_add-sig c = omega (arith, bit-fits _ _ _ c.typed.ensures c.in_ok-sig.was)

pub returns : goal.returns
unfolding form_meant unread method_rest bytes_at
returns c =
    record { result_value = form-ended _ _ _ refl c.done.ensures c.then_some.ensures ∙ sym (piece-on _ _ c.method_name.ensures c.in_ok-name.was ∙ typed-on _ _ c.typed.ensures c.in_ok-sig.was); result_value_2 = unread-ended _ _ refl _ c.then_some.ensures }
