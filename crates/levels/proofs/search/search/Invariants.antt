-- `levels::search::search` meets its contract. The invariant: the records hold the levels so far, and what is left of the search gives what is due.
use mathlib.Core.Path.{◌≡◌}
use Prim.Native.Nat.{◌-◌}
use lib.ListN.{length}
use Rattle.selection.specs.Results.{name_meant}
use Rattle.multiples.specs.Records.{max_records}
use Rattle.levels.proofs.SearchLaws.{Going}
use Rattle.levels.proofs.search.search.Given as goal

abbrev pub invariant-loop-lo : goal.invariant-loop-lo
invariant-loop-lo l =
    Going l.text l.rows (name_meant l.text l.rows l.names l.q) l.s.typ l.s.flag l.s.addressable l.walk l.lo l.n × (length l.walk ≡ length l.initial.walk) × (length l.places ≡ length l.initial.places)

abbrev pub decreases-loop-lo : goal.decreases-loop-lo
decreases-loop-lo l = max_records - l.lo
