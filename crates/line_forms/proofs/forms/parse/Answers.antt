-- `line_forms::forms::parse` meets its contract.
use mathlib.Core.Path.{sym, ◌∙◌}
use native.Mathlib.Omega.{arith}
use Rattle.line_forms.proofs.Chain.{word-takes, tried-on, tried-out, unread-out}
use Rattle.line_forms.proofs.StepLaws.{parsed, no-form}
use Rattle.line_forms.specs.Steps.{line_rest}
use Rattle.line_forms.proofs.forms.parse.Goals as goal

pub returns-in-Some : goal.returns-in-Some
unfolding line_rest
returns-in-Some c =
    record { result_value = parsed _ _ _ (c.package_line.ensures.result_value ∙ sym (tried-on _ _ _ _ _ c.word.ensures c.in-Some.is)); result_bound = omega (arith, c.package_line.ensures.result_value_2) }

pub returns-in-Some-word : goal.returns-in-Some-word
unfolding line_rest
returns-in-Some-word c =
    record { result_value = parsed _ _ _ (c.type_line.ensures.result_value ∙ sym (tried-out _ _ _ _ _ c.word.ensures c.in_default.is ∙ tried-on _ _ _ _ _ c.word-2.ensures c.in-Some-word.is)); result_bound = omega (arith, word-takes _ _ _ c.word-2.ensures c.in-Some-word.is, c.type_line.ensures.result_bound) }

pub returns-in-Some-word-2 : goal.returns-in-Some-word-2
unfolding line_rest
returns-in-Some-word-2 c =
    record { result_value = parsed _ _ _ (c.field_line.ensures.result_value ∙ sym (tried-out _ _ _ _ _ c.word.ensures c.in_default.is ∙ tried-out _ _ _ _ _ c.word-2.ensures c.in_default-word.is ∙ tried-on _ _ _ _ _ c.word-3.ensures c.in-Some-word-2.is)); result_bound = omega (arith, c.field_line.ensures.result_value_2) }

pub returns-in_err-d : goal.returns-in_err-d
unfolding line_rest
returns-in_err-d c =
    record { result_value = rw c.from_residual.ensures (no-form _ _ (tried-out _ _ _ _ _ c.word.ensures c.in_default.is ∙ tried-out _ _ _ _ _ c.word-2.ensures c.in_default-word.is ∙ tried-out _ _ _ _ _ c.word-3.ensures c.in_default-word-2.is ∙ tried-out _ _ _ _ _ c.word-4.ensures c.in_err-d.was)); result_bound = omega (arith, unread-out c.args.s.now c.from_residual.ensures) }

pub returns : goal.returns
unfolding line_rest
returns c =
    record { result_value = parsed _ _ _ (c.method_line.ensures.result_value ∙ sym (tried-out _ _ _ _ _ c.word.ensures c.in_default.is ∙ tried-out _ _ _ _ _ c.word-2.ensures c.in_default-word.is ∙ tried-out _ _ _ _ _ c.word-3.ensures c.in_default-word-2.is ∙ tried-on _ _ _ _ _ c.word-4.ensures c.in_ok-d.was)); result_bound = omega (arith, c.method_line.ensures.result_value_2) }
