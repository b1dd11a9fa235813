-- `cycles::ranks::first_waiting` meets its contract. The invariant: those before i, from the first on, have a rank.
use Prim.Native.Nat.{ℕ, ◌≤◌, ◌<◌}
use Rattle.rules.specs.Library.{rank_read}
use Rattle.cycles.specs.Contents.{content_read}
use Rattle.cycles.proofs.ranks.first_waiting.Given as goal

abbrev pub invariant-loop-i : goal.invariant-loop-i
invariant-loop-i l = (j : ℕ) → l.from ≤ j → j < l.i → 0 < rank_read l.rows (content_read l.rows l.t j)
