-- `line_forms::forms::type_line` meets its contract.
use mathlib.Core.Path.{sym, ◌∙◌}
use native.Mathlib.Omega.{arith}
use Rattle.line_forms.proofs.Chain.{tried-on, tried-out}
use Rattle.line_forms.specs.Steps.{type_rest}
use Rattle.line_forms.proofs.forms.type_line.Goals as goal

pub returns-in-Some : goal.returns-in-Some
unfolding type_rest
returns-in-Some c =
    record { result_value = c.one.ensures.result_value ∙ sym (tried-on _ _ _ _ _ c.word.ensures c.in-Some.is); result_bound = omega (arith, c.one.ensures.result_value_2) }

pub returns-in-Some-word : goal.returns-in-Some-word
unfolding type_rest
returns-in-Some-word c =
    record { result_value = c.two.ensures.result_value ∙ sym (tried-out _ _ _ _ _ c.word.ensures c.in_default.is ∙ tried-on _ _ _ _ _ c.word-2.ensures c.in-Some-word.is); result_bound = omega (arith, c.two.ensures.result_value_2) }

pub returns-in-Some-word-2 : goal.returns-in-Some-word-2
unfolding type_rest
returns-in-Some-word-2 c =
    record { result_value = c.one-in-Some-word-2.ensures.result_value ∙ sym (tried-out _ _ _ _ _ c.word.ensures c.in_default.is ∙ tried-out _ _ _ _ _ c.word-2.ensures c.in_default-word.is ∙ tried-on _ _ _ _ _ c.word-3.ensures c.in-Some-word-2.is); result_bound = omega (arith, c.one-in-Some-word-2.ensures.result_value_2) }

pub returns-in-Some-word-3 : goal.returns-in-Some-word-3
unfolding type_rest
returns-in-Some-word-3 c =
    record { result_value = c.one-in-Some-word-3.ensures.result_value ∙ sym (tried-out _ _ _ _ _ c.word.ensures c.in_default.is ∙ tried-out _ _ _ _ _ c.word-2.ensures c.in_default-word.is ∙ tried-out _ _ _ _ _ c.word-3.ensures c.in_default-word-2.is ∙ tried-on _ _ _ _ _ c.word-4.ensures c.in-Some-word-3.is); result_bound = omega (arith, c.one-in-Some-word-3.ensures.result_value_2) }

pub returns : goal.returns
unfolding type_rest
returns c =
    record { result_value = c.next_kinds.ensures.result_value ∙ sym (tried-out _ _ _ _ _ c.word.ensures c.in_default.is ∙ tried-out _ _ _ _ _ c.word-2.ensures c.in_default-word.is ∙ tried-out _ _ _ _ _ c.word-3.ensures c.in_default-word-2.is ∙ tried-out _ _ _ _ _ c.word-4.ensures c.in_default-word-3.is); result_bound = c.next_kinds.ensures.result_bound }
