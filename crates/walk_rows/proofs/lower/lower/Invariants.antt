-- `lower`: what the rows from lo up to i embed is entered.
use mathlib.Core.Path.{◌≡◌}
use lib.ListN.{length}
use Rattle.objects.specs.Rows.{type_count}
use Rattle.walk_rows.specs.State.{Enters}
use Rattle.walk_rows.proofs.LowerLaws.{level_rows}
use Rattle.walk_rows.proofs.lower.lower.Given as goal

abbrev pub invariant-loop-i : goal.invariant-loop-i
invariant-loop-i l =
    Enters (type_count l.rows) l.initial.walk l.n (level_rows l.text l.rows l.initial.walk l.n l.lo l.i) l.walk l.end × (length l.walk ≡ length l.initial.walk)
