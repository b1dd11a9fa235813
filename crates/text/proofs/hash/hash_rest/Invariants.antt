-- `text::hash::hash_rest` meets its contract. The invariant: the hash is that of the bytes from `i` on, with what those before gave.
use mathlib.Core.Path.{◌≡◌}
use Prim.Native.Nat.{◌<◌}
use lib.ListN.{drop}
use Rattle.text.specs.Hash.{hashes, hash_rest}
use Rattle.text.proofs.hash.hash_rest.Given as goal

abbrev pub invariant-loop-i : goal.invariant-loop-i
invariant-loop-i l = (hash_rest l.before (drop l.at l.name) ≡ hash_rest l.h (drop l.i l.name)) × (l.h < hashes)
