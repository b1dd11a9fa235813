-- `text::numbers::number_at` meets its contract. A first byte that is no digit, 0 alone, 0 with bytes behind it, or digits.
use mathlib.Core.Path.{refl, sym, ◌∙◌}
use native.Mathlib.Omega.{arith}
use borrow.Author.Tests.{eq-eqb, ne_eqb}
use Rattle.text.proofs.NumberLaws.{number-other, number_digits, number-zero, number-zeros, digit-within}
use Rattle.text.proofs.numbers.number_at.Goals as goal

pub returns-then-not-digit : goal.returns-then-not-digit
returns-then-not-digit c = sym (number-other _ _ _ _ c.byte-b.ensures c.digit.ensures c.if-not-digit.true)

pub returns-then-b-ne48 : goal.returns-then-b-ne48
returns-then-b-ne48 c =
    c.digits.ensures ∙ sym (number_digits _ _ _ _ c.byte-b.ensures c.digit.ensures c.if-not-digit.false refl (ne_eqb _ _ c.if-b-ne48.true))

pub overflow_add-at : goal.overflow_add-at
overflow_add-at c = omega (arith, digit-within _ _ _ c.args.max c.byte-b.ensures c.digit.ensures c.if-not-digit.false)

pub returns-in_err-rest : goal.returns-in_err-rest
returns-in_err-rest c =
    rw c.from_residual.ensures
    (sym (number-zeros _ _ _ _ c.byte-b.ensures c.digit.ensures c.if-not-digit.false refl (eq-eqb _ _ c.if-b-ne48.false) c.behind.ensures c.in_err-rest.was))

pub returns : goal.returns
returns c =
    sym (number-zero _ _ _ _ c.byte-b.ensures c.digit.ensures c.if-not-digit.false refl (eq-eqb _ _ c.if-b-ne48.false) c.behind.ensures c.in_ok-rest.was)
