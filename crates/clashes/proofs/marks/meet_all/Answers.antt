-- `clashes::marks::meet_all` meets its contract. The invariant: the first i names are marked.
use Rattle.std.proofs.Common.{rules}
use native.Mathlib.Omega.{arith}
use Rattle.clashes.proofs.MarkLaws.{noted-none, noted-on, noted-end}
use Rattle.clashes.proofs.marks.meet_all.Goals as goal

pub loop-i-init : goal.loop-i-init
loop-i-init c = (search rules, noted-none _ _ _ _ _)

pub overflow_add-first : goal.overflow_add-first
overflow_add-first c = omega (arith, c.requires.2)

pub place-requires : goal.place-requires
place-requires c = (c.requires.1, c.name_hash-h.ensures.upper_bound)

pub meet-requires : goal.meet-requires
meet-requires c = (search rules, c.place.ensures.upper_bound)

pub loop-i-preserved : goal.loop-i-preserved
loop-i-preserved c =
    (search rules, noted-on _ _ _ _ _ c.name_hash-h.ensures.value c.place.ensures.value _ _ _ c.meet.ensures c.loop-i.invariant.1)

pub returns : goal.returns
returns c = noted-end _ _ _ _ _ _ (omega arith) c.loop-i-test.false c.loop-i.invariant.1
