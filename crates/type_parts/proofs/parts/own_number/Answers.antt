use Rattle.type_parts.proofs.ReadLaws.{member-own, element-own}
use Rattle.type_parts.proofs.parts.own_number.Goals as goal
use Rattle.type_parts.proofs.parts.own_number.Goals.{then-has_members-via-then-has_members, then-has_members-via-else-has_members+then-k-eq-TUPLE}

pub returns-then-has_members : goal.returns-then-has_members
returns-then-has_members c =
    let k = c.type_word-k.ensures in
    let n = c.member_total.ensures in
    elim c.then-has_members.branch [
      | then-has_members-via-then-has_members w ↦ member-own _ _ k (c.has_members.ensures w.if-has_members.true) n
      | then-has_members-via-else-has_members+then-k-eq-TUPLE w ↦ element-own _ _ k w.if-k-eq-TUPLE.true n
    ]
