use mathlib.Core.Path.{◌≡◌}
use lib.ListN.{length}
use Rattle.cycles.specs.Search.{Meets}
use Rattle.cycles.proofs.search.meet.Given as goal

abbrev pub invariant-loop-i : goal.invariant-loop-i
invariant-loop-i l =
    (length l.marks ≡ length l.initial.marks) × (length l.queue ≡ length l.initial.queue) × Meets l.rows l.x l.i l.initial.marks l.initial.queue l.end l.marks l.queue l.after
