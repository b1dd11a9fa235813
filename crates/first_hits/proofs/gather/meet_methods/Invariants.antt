-- `first_hits::gather::meet_methods` meets its contract. The invariant: the names are settled by what the rows so far have.
use mathlib.Core.Path.{◌≡◌}
use lib.ListN.{length, take}
use Rattle.first_hits.specs.Hits.{Held, Settles, methods_met}
use Rattle.first_hits.proofs.gather.meet_methods.Given as goal

abbrev pub invariant-loop-i : goal.invariant-loop-i
invariant-loop-i l =
    Held l.text l.rows l.names l.count l.hits × Settles l.text l.rows l.walk (methods_met l.rows l.walk l.i) (take l.count l.names) l.hits × (length l.names ≡ length l.initial.names) × (length l.hits ≡ length l.initial.hits)
