use mathlib.Core.Path.{◌≡◌}
use Prim.Native.Nat.{◌-◌}
use lib.ListN.{length}
use Rattle.objects.specs.Bounds.{max_types}
use Rattle.cycles.specs.Search.{Searched}
use Rattle.cycles.proofs.search.look.Given as goal

abbrev pub invariant-loop-done : goal.invariant-loop-done
invariant-loop-done l =
    (length l.marks ≡ length l.initial.marks) × (length l.queue ≡ length l.initial.queue) × Searched l.rows l.t l.marks l.queue l.end l.done

abbrev pub decreases-loop-done : goal.decreases-loop-done
decreases-loop-done l = max_types - l.done
