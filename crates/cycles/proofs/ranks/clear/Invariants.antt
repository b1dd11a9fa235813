use mathlib.Core.Path.{◌≡◌}
use lib.ListN.{length}
use Rattle.cycles.specs.Ranking.{Cleared}
use Rattle.cycles.proofs.ranks.clear.Given as goal

abbrev pub invariant-loop-t : goal.invariant-loop-t
invariant-loop-t l = (length l.rows ≡ length l.initial.rows) × Cleared l.initial.rows l.t l.rows
