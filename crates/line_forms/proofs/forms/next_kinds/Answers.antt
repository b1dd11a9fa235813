-- `line_forms::forms::next_kinds` meets its contract.
use mathlib.Core.Path.{sym, ◌∙◌}
use native.Mathlib.Omega.{arith}
use Rattle.line_forms.proofs.Chain.{word-takes, tried-on, tried-out}
use Rattle.line_forms.specs.Steps.{next_kinds, tuple_rest}
use Rattle.line_forms.specs.Forms.{form_read, form_meant, unread}
use Rattle.line_forms.proofs.forms.next_kinds.Goals as goal

pub returns-in-Some : goal.returns-in-Some
unfolding next_kinds
returns-in-Some c =
    record { result_value = c.two.ensures.result_value ∙ sym (tried-on _ _ _ _ _ c.word.ensures c.in-Some.is); result_bound = omega (arith, c.two.ensures.result_value_2) }

pub returns-in-Some-word : goal.returns-in-Some-word
unfolding next_kinds
returns-in-Some-word c =
    record { result_value = c.two-in-Some-word.ensures.result_value ∙ sym (tried-out _ _ _ _ _ c.word.ensures c.in_default.is ∙ tried-on _ _ _ _ _ c.word-2.ensures c.in-Some-word.is); result_bound = omega (arith, c.two-in-Some-word.ensures.result_value_2) }

pub returns-in-Some-word-2 : goal.returns-in-Some-word-2
unfolding next_kinds tuple_rest form_read form_meant unread
returns-in-Some-word-2 c =
    record { result_value = sym (tried-out _ _ _ _ _ c.word.ensures c.in_default.is ∙ tried-out _ _ _ _ _ c.word-2.ensures c.in_default-word.is ∙ tried-on _ _ _ _ _ c.word-3.ensures c.in-Some-word-2.is); result_bound = omega (arith, word-takes _ _ _ c.word-3.ensures c.in-Some-word-2.is) }

pub returns-in-Some-word-3 : goal.returns-in-Some-word-3
unfolding next_kinds
returns-in-Some-word-3 c =
    record { result_value = c.func.ensures.result_value ∙ sym (tried-out _ _ _ _ _ c.word.ensures c.in_default.is ∙ tried-out _ _ _ _ _ c.word-2.ensures c.in_default-word.is ∙ tried-out _ _ _ _ _ c.word-3.ensures c.in_default-word-2.is ∙ tried-on _ _ _ _ _ c.word-4.ensures c.in-Some-word-3.is); result_bound = omega (arith, c.func.ensures.result_value_2) }

pub returns : goal.returns
unfolding next_kinds
returns c =
    record { result_value = c.last_kinds.ensures.result_value ∙ sym (tried-out _ _ _ _ _ c.word.ensures c.in_default.is ∙ tried-out _ _ _ _ _ c.word-2.ensures c.in_default-word.is ∙ tried-out _ _ _ _ _ c.word-3.ensures c.in_default-word-2.is ∙ tried-out _ _ _ _ _ c.word-4.ensures c.in_default-word-3.is); result_bound = omega (arith, c.last_kinds.ensures.result_value_2) }
