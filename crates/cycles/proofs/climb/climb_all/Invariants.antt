-- `cycles::climb::climb_all` meets its contract.
use mathlib.Core.Path.{◌≡◌}
use lib.ListN.{length}
use Rattle.cycles.specs.Ranking.{Advanced}
use Rattle.cycles.proofs.climb.climb_all.Given as goal

abbrev pub invariant-loop-t : goal.invariant-loop-t
invariant-loop-t l =
    (length l.rows ≡ length l.initial.rows) × (length l.scratch ≡ length l.initial.scratch) × Advanced l.initial.rows l.rows l.after
