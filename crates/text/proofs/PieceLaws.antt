-- How many pieces a text has (specs/Lines.antt).
use mathlib.Core.Bool.{Bool, true, false}
use mathlib.Core.List.{List, [], ◌∷◌}
use Prim.Native.Nat.{ℕ, suc, ◌+◌, ◌≤◌}
use native.Mathlib.Omega.{arith}
use lib.Dec.{eqb}
use lib.ListN.{length}
use Rattle.objects.specs.Lists.{Bytes, head_or}
use Rattle.text.specs.Lines.{before, split}

-- at most one piece for each byte that is not the first piece's, and one more
pub split-few : (sep : ℕ) (s : Bytes) → length (head_or [] (split sep s)) + length (split sep s) ≤ suc (length s)
unfolding split
split-few sep [] = omega arith
split-few sep (b ∷ s) = go (eqb b sep) (split sep s) (split-few sep s)
  where
    go : (t : Bool) (ps : List Bytes) → length (head_or [] ps) + length ps ≤ suc (length s) → length (head_or [] (before t b ps)) + length (before t b ps) ≤ suc (length (b ∷ s))
    go true ps h = omega arith
    go false [] h = omega arith
    go false (p ∷ ps) h = omega arith
