-- `levels::all::walk_all` meets its contract. The invariant: the records hold the levels so far, from the type of the first row on.
use mathlib.Core.Path.{◌≡◌}
use Prim.Native.Nat.{◌-◌}
use lib.ListN.{length}
use Rattle.multiples.specs.Records.{max_records}
use Rattle.walk_rows.specs.Records.{row_of}
use Rattle.levels.proofs.AllLaws.{Deepens}
use Rattle.levels.proofs.all.walk_all.Given as goal

abbrev pub invariant-loop-lo : goal.invariant-loop-lo
invariant-loop-lo l =
    Deepens l.text l.rows (row_of l.initial.walk 0).type l.f l.walk l.lo l.n × (length l.walk ≡ length l.initial.walk)

abbrev pub decreases-loop-lo : goal.decreases-loop-lo
decreases-loop-lo l = max_records - l.lo
