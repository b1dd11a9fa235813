-- `first_hits::names::place_of` meets its contract. The invariant: the names before `low` come before the id, those from `high` on after it.
use Prim.Native.Nat.{◌-◌}
use Rattle.obj.specs.Ids.{id_meant}
use Rattle.first_hits.proofs.SearchLaws.{Between}
use Rattle.first_hits.proofs.names.place_of.Given as goal

abbrev pub invariant-loop-low : goal.invariant-loop-low
invariant-loop-low l = Between l.text l.rows l.names l.n (id_meant l.text l.id) l.low l.high

abbrev pub decreases-loop-low : goal.decreases-loop-low
decreases-loop-low l = l.high - l.low
