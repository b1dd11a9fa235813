use mathlib.Core.Path.{◌≡◌}
use lib.ListN.{length}
use Rattle.objects.specs.Rows.{table_of}
use Rattle.pair_marks.specs.Marks.{unmet}
use Rattle.typ.specs.Compared.{State}
use Rattle.typ.proofs.identical.decide_by.Given as goal

abbrev pub invariant-loop : goal.invariant-loop
invariant-loop l =
    (length l.marks ≡ length l.initial.marks) × (length l.labels ≡ length l.initial.labels) × State (table_of l.text l.rows) l.marks l.labels l.x l.y

-- each round that opens a pair meets it
abbrev pub decreases-loop : goal.decreases-loop
decreases-loop l = unmet l.marks
