-- `line_forms::forms::one` meets its contract.
use mathlib.Core.Path.{refl, sym, ◌∙◌}
use Rattle.line_forms.proofs.Chain.{small-on, small-out, form-ended, unread-ended, form-out, unread-out}
use Rattle.line_forms.specs.Steps.{one_rest}
use Rattle.line_forms.specs.Forms.{form_meant, unread}
use Rattle.line_forms.proofs.forms.one.Goals as goal

pub returns-in_err-a : goal.returns-in_err-a
unfolding one_rest
returns-in_err-a c =
    record { result_value = form-out _ c.from_residual.ensures (small-out _ _ c.small.ensures c.in_err-a.was); result_value_2 = unread-out _ c.from_residual.ensures }

pub returns : goal.returns
unfolding form_meant unread one_rest
returns c =
    record { result_value = form-ended _ _ _ refl c.done.ensures c.then_some.ensures ∙ sym (small-on _ _ c.small.ensures c.in_ok-a.was); result_value_2 = unread-ended _ _ refl _ c.then_some.ensures }
