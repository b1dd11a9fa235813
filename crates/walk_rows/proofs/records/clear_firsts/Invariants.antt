-- `clear_firsts`: the first i types have no row.
use mathlib.Core.Path.{◌≡◌}
use lib.ListN.{length}
use Rattle.walk_rows.proofs.StartLaws.{Cleared}
use Rattle.walk_rows.proofs.records.clear_firsts.Given as goal

abbrev pub invariant-loop-i : goal.invariant-loop-i
invariant-loop-i l =
    (length l.walk ≡ length l.initial.walk) × Cleared l.walk l.i
