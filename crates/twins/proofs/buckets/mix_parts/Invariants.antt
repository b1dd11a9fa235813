-- `mix_parts` meets its contract. The invariant: `h` has the labels of the parts before `i`.
use mathlib.Core.Path.{◌≡◌}
use Prim.Native.Nat.{◌<◌}
use Rattle.text.specs.Hash.{hashes}
use Rattle.twins.proofs.ReadingLaws.{mixed_to}
use Rattle.twins.proofs.buckets.mix_parts.Given as goal

abbrev pub invariant-loop-i : goal.invariant-loop-i
invariant-loop-i l = (l.h < hashes) × (l.h ≡ mixed_to l.rows l.t l.labels l.before l.i)
