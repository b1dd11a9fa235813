-- `line_forms::forms::last_kinds` meets its contract.
use mathlib.Core.Path.{sym, ◌∙◌}
use Rattle.line_forms.proofs.Chain.{tried-on, tried-out, form-out, unread-out}
use Rattle.line_forms.specs.Steps.{last_kinds}
use Rattle.line_forms.proofs.forms.last_kinds.Goals as goal

pub returns-in-Some : goal.returns-in-Some
unfolding last_kinds
returns-in-Some c =
    record { result_value = c.none.ensures.result_value ∙ sym (tried-on _ _ _ _ _ c.word.ensures c.in-Some.is); result_value_2 = c.none.ensures.result_value_2 }

pub returns-in-Some-word : goal.returns-in-Some-word
unfolding last_kinds
returns-in-Some-word c =
    record { result_value = c.none-in-Some-word.ensures.result_value ∙ sym (tried-out _ _ _ _ _ c.word.ensures c.in_default.is ∙ tried-on _ _ _ _ _ c.word-2.ensures c.in-Some-word.is); result_value_2 = c.none-in-Some-word.ensures.result_value_2 }

pub returns-in_err-d : goal.returns-in_err-d
unfolding last_kinds
returns-in_err-d c =
    record { result_value = form-out _ c.from_residual.ensures (tried-out _ _ _ _ _ c.word.ensures c.in_default.is ∙ tried-out _ _ _ _ _ c.word-2.ensures c.in_default-word.is ∙ tried-out _ _ _ _ _ c.word-3.ensures c.in_err-d.was); result_value_2 = unread-out _ c.from_residual.ensures }

pub returns : goal.returns
unfolding last_kinds
returns c =
    record { result_value = c.one.ensures.result_value ∙ sym (tried-out _ _ _ _ _ c.word.ensures c.in_default.is ∙ tried-out _ _ _ _ _ c.word-2.ensures c.in_default-word.is ∙ tried-on _ _ _ _ _ c.word-3.ensures c.in_ok-d.was); result_value_2 = c.one.ensures.result_value_2 }
