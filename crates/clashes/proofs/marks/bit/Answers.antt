-- `clashes::marks::bit` meets its contract.
use mathlib.Core.Path.{ap}
use Prim.Native.Nat.{ℕ, ◌/◌, ◌%◌, ◌^◌}
use Rattle.clashes.specs.Marks.{bit_at}
use Rattle.clashes.proofs.marks.bit.Goals as goal

pub returns : goal.returns
unfolding bit_at
returns c = ap (λ (w : ℕ). w / 2 ^ (c.args.i % 32) % 2) c.word.ensures
