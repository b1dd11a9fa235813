-- `embed_fields`: the rows for the first j fields are entered.
use mathlib.Core.Path.{◌≡◌}
use lib.ListN.{length}
use Rattle.objects.specs.Rows.{type_count}
use Rattle.walk_rows.specs.State.{Enters}
use Rattle.walk_rows.proofs.LowerLaws.{field_rows}
use Rattle.walk_rows.proofs.lower.embed_fields.Given as goal

abbrev pub invariant-loop-j : goal.invariant-loop-j
invariant-loop-j l =
    Enters (type_count l.rows) l.initial.walk l.n (field_rows l.text l.rows l.up l.first l.j) l.walk l.end × (length l.walk ≡ length l.initial.walk)
