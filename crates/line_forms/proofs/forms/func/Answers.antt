-- `line_forms::forms::func` meets its contract.
use mathlib.Core.Path.{refl, sym, ◌∙◌}
use Rattle.line_forms.proofs.Chain.{small-on, small-out, form-ended, unread-ended, form-out, unread-out}
use Rattle.line_forms.specs.Steps.{func_rest}
use Rattle.line_forms.specs.Forms.{form_meant, unread}
use Rattle.line_forms.proofs.forms.func.Goals as goal

pub returns-in_err-v : goal.returns-in_err-v
unfolding func_rest
returns-in_err-v c =
    record { result_value = form-out _ c.from_residual.ensures (small-out _ _ c.small.ensures c.in_err-v.was); result_value_2 = unread-out _ c.from_residual.ensures }

pub returns-in_err-p : goal.returns-in_err-p
unfolding func_rest
returns-in_err-p c =
    record { result_value = form-out _ c.from_residual-in_err-p.ensures (small-on _ _ c.small.ensures c.in_ok-v.was ∙ small-out _ _ c.small-2.ensures c.in_err-p.was); result_value_2 = unread-out _ c.from_residual-in_err-p.ensures }

pub returns-in_err-r : goal.returns-in_err-r
unfolding func_rest
returns-in_err-r c =
    record { result_value = form-out _ c.from_residual-in_err-r.ensures (small-on _ _ c.small.ensures c.in_ok-v.was ∙ small-on _ _ c.small-2.ensures c.in_ok-p.was ∙ small-out _ _ c.small-3.ensures c.in_err-r.was); result_value_2 = unread-out _ c.from_residual-in_err-r.ensures }

pub returns : goal.returns
unfolding form_meant unread func_rest
returns c =
    record { result_value = form-ended _ _ _ refl c.done.ensures c.then_some.ensures ∙ sym (small-on _ _ c.small.ensures c.in_ok-v.was ∙ small-on _ _ c.small-2.ensures c.in_ok-p.was ∙ small-on _ _ c.small-3.ensures c.in_ok-r.was); result_value_2 = unread-ended _ _ refl _ c.then_some.ensures }
