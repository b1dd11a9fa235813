use mathlib.Core.Path.{sym, ◌∙◌}
use Rattle.objects.proofs.ListLaws.{clash}
use Rattle.type_parts.proofs.MemberRead.{alike-other, alike-embedded, alike-tags}
use Rattle.type_parts.proofs.parts.alike.Goals as goal
use Rattle.type_parts.proofs.parts.alike.Goals.{then-same_member, else-same_member}

pub returns-then-is_embedded : goal.returns-then-is_embedded
returns-then-is_embedded c =
    elim c.if-same_member.branch [
      | then-same_member w ↦ alike-tags _ _ _ _ _ _ _ _ c.same_member.ensures w.if-same_member.true w.is_embedded.ensures w.is_embedded-then-same_member.ensures (sym w.value-is ∙ c.if-is_embedded.true) c.same_tag.ensures
      | else-same_member w ↦ absurd (clash c.if-is_embedded.true (w.value-is ∙ w.if-same_member.false))
    ]

pub returns-else-is_embedded : goal.returns-else-is_embedded
returns-else-is_embedded c =
    c.if-is_embedded.false
    ∙ elim c.if-same_member.branch [
      | then-same_member w ↦ alike-embedded _ _ _ _ _ _ _ c.same_member.ensures w.if-same_member.true w.is_embedded.ensures w.is_embedded-then-same_member.ensures (sym w.value-is ∙ c.if-is_embedded.false)
      | else-same_member w ↦ alike-other _ _ _ _ _ c.same_member.ensures w.if-same_member.false
    ]
