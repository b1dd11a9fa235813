-- `agree` meets its contract.
use mathlib.Core.Path.{sym, ◌∙◌}
use borrow.Author.Tests.{not-true, not-false, ne_eqb}
use Rattle.objects.proofs.ListLaws.{clash}
use Rattle.type_parts.proofs.KinLaws.{peers-of}
use Rattle.twins.proofs.ReadingLaws.{agrees-labels, agrees-mismatch, agrees-parts}
use Rattle.twins.proofs.agreeing.agree.Goals as goal
use Rattle.twins.proofs.agreeing.agree.Goals.{then-labels-x, else-labels-x}

pub same_parts-requires-clause-peers : goal.same_parts-requires-clause-peers
same_parts-requires-clause-peers c =
    elim c.if-labels-x.branch [
      | then-labels-x w ↦ (peers-of _ _ _ _ c.requires.x_bound.0 c.requires.x_bound.1 w.mismatch.ensures (not-true _ (sym w.value-is ∙ c.if-not-mismatch.true)), c.requires.x_bound.2)
      | else-labels-x w ↦ absurd (clash c.if-not-mismatch.true (w.value-is ∙ ne_eqb _ _ w.if-labels-x.false))
    ]

pub returns-then-not-mismatch : goal.returns-then-not-mismatch
returns-then-not-mismatch c =
    elim c.if-labels-x.branch [
      | then-labels-x w ↦ agrees-parts _ _ _ _ w.if-labels-x.true w.mismatch.ensures (not-true _ (sym w.value-is ∙ c.if-not-mismatch.true)) c.same_parts.ensures
      | else-labels-x w ↦ absurd (clash c.if-not-mismatch.true (w.value-is ∙ ne_eqb _ _ w.if-labels-x.false))
    ]

pub returns-else-not-mismatch : goal.returns-else-not-mismatch
returns-else-not-mismatch c =
    c.if-not-mismatch.false
    ∙ elim c.if-labels-x.branch [
      | then-labels-x w ↦ agrees-mismatch _ _ _ _ w.mismatch.ensures (not-false _ (sym w.value-is ∙ c.if-not-mismatch.false))
      | else-labels-x w ↦ agrees-labels _ _ _ _ w.if-labels-x.false
    ]
