-- `clashes::marks::meet_all` meets its contract. The invariant: the first i names are marked.
use mathlib.Core.Path.{◌≡◌}
use lib.ListN.{length}
use Rattle.objects.specs.Rows.{members_from}
use Rattle.clashes.specs.Marks.{Noted}
use Rattle.clashes.proofs.marks.meet_all.Given as goal

abbrev pub invariant-loop-i : goal.invariant-loop-i
invariant-loop-i l =
    (length l.marks ≡ length l.initial.marks) × Noted l.initial.marks l.k (members_from l.text l.rows l.first l.i) l.marks
