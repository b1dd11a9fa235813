-- `cycles::climb::step` meets its contract.
use native.Mathlib.Omega.{arith}
use Rattle.cycles.proofs.RankLaws.{advanced-self}
use Rattle.cycles.proofs.climb.step.Goals as goal

pub overflow_sub-top : goal.overflow_sub-top
overflow_sub-top c = omega (arith, c.requires.2)

pub overflow_add-top : goal.overflow_add-top
overflow_add-top c = omega (arith, c.requires.3)

pub visit-requires : goal.visit-requires
visit-requires c =
    (c.requires.0, rw c.type_count.ensures at c.if-x-type_count.true, c.requires.1, c.requires.2, c.requires.3)

pub overflow_sub-result : goal.overflow_sub-result
overflow_sub-result c = omega (arith, c.requires.2)

pub returns-then-x-type_count : goal.returns-then-x-type_count
returns-then-x-type_count c = c.visit.ensures

pub returns-else-x-type_count : goal.returns-else-x-type_count
returns-else-x-type_count c = record {
  advanced = advanced-self _ _ c.requires.0;
  top_le_max_types = omega (arith, c.requires.3);
}
