-- `same_parts` meets its contract. The invariant: the parts before `i` have one label each.
use native.Mathlib.Omega.{arith}
use Rattle.type_parts.proofs.KinLaws.{peers-kin, left-place, right-place, left-inside, right-inside}
use Rattle.twins.proofs.ReadingLaws.{parts-together, parts-apart}
use Rattle.twins.proofs.agreeing.same_parts.Goals as goal

pub part_in-p-requires : goal.part_in-p-requires
part_in-p-requires c =
    record { k_value = (c.type_word-j.ensures, c.first_member-first.ensures); i_bound = left-place _ _ c.requires.library _ _ (peers-kin _ _ _ c.requires.peers.0) _ _ c.part_count-n.ensures c.loop-i-test.true }

pub part_in-q-requires : goal.part_in-q-requires
part_in-q-requires c =
    record { k_value = (c.type_word-k.ensures, c.first_member-second.ensures); i_bound = right-place _ _ c.requires.library _ _ (peers-kin _ _ _ c.requires.peers.0) _ _ c.part_count-n.ensures c.loop-i-test.true }

pub bounds-labels-p : goal.bounds-labels-p
bounds-labels-p c =
    omega (
      arith,
      c.requires.peers.1,
      left-inside _ _ c.requires.library _ _ (peers-kin _ _ _ c.requires.peers.0) _ _ c.part_count-n.ensures c.loop-i-test.true _
          c.part_in-p.ensures,
    )

pub bounds-labels-q : goal.bounds-labels-q
bounds-labels-q c =
    omega (
      arith,
      c.requires.peers.1,
      right-inside _ _ c.requires.library _ _ (peers-kin _ _ _ c.requires.peers.0) _ _ c.part_count-n.ensures c.loop-i-test.true _
          c.part_in-q.ensures,
    )

pub returns-then-labels-p : goal.returns-then-labels-p
returns-then-labels-p c =
    parts-apart _ _ _ _ _ c.requires.peers.0 _ _ c.part_count-n.ensures c.loop-i-test.true c.part_in-p.ensures c.part_in-q.ensures c.if-labels-p.true

pub returns : goal.returns
returns c =
    parts-together _ _ _ _ _ c.requires.peers.0 _ _ c.part_count-n.ensures c.loop-i-test.false c.loop-i.invariant
