-- `clashes::marks::high` meets its contract.
use mathlib.Core.Path.{refl}
use native.Mathlib.Omega.{arith}
use Rattle.clashes.specs.Marks.{high_place}
use Rattle.clashes.proofs.marks.high.Goals as goal

pub returns : goal.returns
unfolding high_place
returns c = record { value = refl; upper_bound = omega (arith, c.requires) }
