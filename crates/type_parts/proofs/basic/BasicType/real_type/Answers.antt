use mathlib.Core.Path.{sym, ◌∙◌}
use borrow.Author.Tests.{eqb-true, eqb-false}
use Rattle.type_parts.proofs.ReadLaws.{real-byte, real-rune, real-rest}
use Rattle.type_parts.proofs.basic.BasicType.real_type.Goals as goal

pub returns-then-eq : goal.returns-then-eq
returns-then-eq c = real-byte _ (eqb-true _ _ (sym c.eq.ensures ∙ c.if-eq.true))

pub returns-then-eq-2 : goal.returns-then-eq-2
returns-then-eq-2 c = real-rune _ (eqb-true _ _ (sym c.eq-2.ensures ∙ c.if-eq-2.true))

pub returns : goal.returns
returns c =
    real-rest _ (eqb-false _ _ (sym c.eq.ensures ∙ c.if-eq.false)) (eqb-false _ _ (sym c.eq-2.ensures ∙ c.if-eq-2.false))
