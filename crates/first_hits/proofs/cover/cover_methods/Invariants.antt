-- `first_hits::cover::cover_methods` meets its contract. The invariant: the names are hidden by the fields that the rows so far have.
use mathlib.Core.Path.{◌≡◌}
use lib.ListN.{length, take}
use Rattle.first_hits.specs.Hits.{Held, Covered, methods_met, fields_met}
use Rattle.first_hits.proofs.cover.cover_methods.Given as goal

abbrev pub invariant-loop-i : goal.invariant-loop-i
invariant-loop-i l =
    Held l.text l.rows l.names l.count l.hits × Covered l.text l.rows l.walk (methods_met l.rows l.walk l.n) (fields_met l.rows l.walk l.i) (take l.count l.names) l.hits × (length l.hits ≡ length l.initial.hits)
