-- `cycles::climb::climb_from` meets its contract.
use mathlib.Core.Path.{◌≡◌}
use Prim.Native.Nat.{◌≤◌}
use lib.ListN.{length}
use Rattle.objects.specs.Bounds.{max_types}
use Rattle.cycles.specs.Ranking.{Advanced}
use Rattle.cycles.proofs.climb.climb_from.Given as goal

abbrev pub invariant-loop : goal.invariant-loop
invariant-loop l =
    (length l.rows ≡ length l.initial.rows) × (length l.scratch ≡ length l.initial.scratch) × Advanced l.initial.rows l.rows l.after × (l.top ≤ max_types)
