-- `clashes::marks::fields_number` meets its contract.
use mathlib.Core.Path.{refl}
use native.Mathlib.Omega.{arith}
use Rattle.clashes.specs.Marks.{fields_number}
use Rattle.clashes.proofs.marks.fields_number.Goals as goal

pub returns : goal.returns
unfolding fields_number
returns c = record { value = refl; upper_bound = omega arith }
