-- The cycle of calls: what falls is the pairs that are not met, then the number of the type; the answers are those of proofs/Cycle.antt and proofs/Passing.antt.
use Rattle.std.proofs.Common.{◌≡◌, ◌+◌, ◌*◌, length}
use Rattle.type_parts.proofs.Rank.{rank, high, rank_span}
use Rattle.pair_marks.specs.Marks.{unmet}
use Rattle.typ.proofs.Passing.{Passed}
use Rattle.typ.proofs.identical.+identical_impl_identical_impl_o.Given as goal

-- the pairs that are not met, then the number of the type
abbrev pub decreases-identical_impl : goal.decreases-identical_impl
decreases-identical_impl l = rank_span * unmet l.marks.now + rank l.rows.now l.x

abbrev pub decreases-identical_impl_o : goal.decreases-identical_impl_o
decreases-identical_impl_o l = rank_span * unmet l.marks.now + high l.rows.now l.x

abbrev pub invariant-identical_impl_o-loop-i : goal.invariant-identical_impl_o-loop-i
invariant-identical_impl_o-loop-i l =
    (length l.marks ≡ length l.initial.marks) × (length l.labels ≡ length l.initial.labels)
    × Passed l.text l.rows l.initial.marks l.marks l.initial.labels l.labels l.x l.y l.i
