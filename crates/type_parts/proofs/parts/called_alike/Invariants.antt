-- the members before the i-th are called alike
use mathlib.Core.Path.{◌≡◌}
use mathlib.Core.Bool.{true}
use Prim.Native.Nat.{ℕ, ◌<◌}
use Rattle.type_parts.proofs.MatchLaws.{alike_at}
use Rattle.type_parts.proofs.parts.called_alike.Given as goal

abbrev pub invariant-loop-i : goal.invariant-loop-i
invariant-loop-i l = (j : ℕ) → j < l.i → alike_at l.text l.rows l.first l.second j ≡ true
