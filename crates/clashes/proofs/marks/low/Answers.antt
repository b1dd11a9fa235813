-- `clashes::marks::low` meets its contract.
use mathlib.Core.Path.{refl}
use native.Mathlib.Omega.{arith}
use Rattle.clashes.specs.Marks.{low_place}
use Rattle.clashes.proofs.marks.low.Goals as goal

pub overflow_add-result : goal.overflow_add-result
overflow_add-result c = omega (arith, c.requires)

pub overflow_add-result-2 : goal.overflow_add-result-2
overflow_add-result-2 c = omega (arith, c.requires)

pub returns : goal.returns
unfolding low_place
returns c = record { value = refl; upper_bound = omega arith }
