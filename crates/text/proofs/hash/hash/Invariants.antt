-- `text::hash::hash` meets its contract. The invariant: the hash of the name is that of the bytes from `i` on, with what those before gave.
use mathlib.Core.Path.{◌≡◌}
use Prim.Native.Nat.{◌-◌, ◌<◌, ◌≤◌}
use lib.ListN.{length, drop}
use Rattle.text.specs.Hash.{hashes, hash_from}
use Rattle.text.proofs.hash.hash.Given as goal

abbrev pub invariant-loop-i : goal.invariant-loop-i
invariant-loop-i l = (hash_from 0 l.name ≡ hash_from l.h (drop l.i l.name)) × (l.h < hashes) × (l.i ≤ length l.name)

abbrev pub decreases-loop-i : goal.decreases-loop-i
decreases-loop-i l = length l.name - l.i
