use mathlib.Core.Path.{◌≡◌}
use lib.ListN.{length}
use Rattle.objects.specs.Rows.{table_of}
use Rattle.typ.proofs.Top.{Turns}
use Rattle.typ.proofs.opening.open_round.Given as goal

abbrev pub invariant-loop-i : goal.invariant-loop-i
invariant-loop-i l =
    (length l.marks ≡ length l.initial.marks) × (length l.labels ≡ length l.initial.labels) × Turns (table_of l.text l.rows) l.x l.y l.initial.marks l.marks l.initial.labels l.labels l.i l.found
