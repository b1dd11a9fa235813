-- `first_hits::gather::meet_stretch` meets its contract. The invariant: the names and hits go from those at the start to those now, by the members met so far.
use mathlib.Core.Path.{◌≡◌}
use lib.ListN.{length}
use Rattle.first_hits.specs.Hits.{Held, stretch_met}
use Rattle.first_hits.proofs.SettleLaws.{Carries}
use Rattle.first_hits.proofs.gather.meet_stretch.Given as goal

abbrev pub invariant-loop-place : goal.invariant-loop-place
invariant-loop-place l =
    Held l.text l.rows l.names l.end l.hits × Carries l.text l.rows l.walk (stretch_met l.s.row l.s.first l.place) l.initial.names l.n l.initial.hits l.names l.end l.hits × (length l.names ≡ length l.initial.names) × (length l.hits ≡ length l.initial.hits)
