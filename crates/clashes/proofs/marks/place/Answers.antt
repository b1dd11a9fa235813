-- `clashes::marks::place` meets its contract.
use mathlib.Core.Path.{refl}
use native.Mathlib.Omega.{arith}
use Rattle.clashes.specs.Marks.{place_of}
use Rattle.clashes.proofs.marks.place.Goals as goal

pub overflow_mul-result : goal.overflow_mul-result
overflow_mul-result c = omega (arith, c.requires.0)

pub overflow_add-result : goal.overflow_add-result
overflow_add-result c = omega (arith, c.requires.0, c.requires.1)

pub overflow_mul-result-2 : goal.overflow_mul-result-2
overflow_mul-result-2 c = omega (arith, c.requires.0, c.requires.1)

pub returns : goal.returns
unfolding place_of
returns c = record { value = refl; upper_bound = omega arith }
