-- `first_hits::cover::cover_stretch` meets its contract. The invariant: the hits go from those at the start to those now, by the fields met so far.
use mathlib.Core.Path.{◌≡◌}
use lib.ListN.{length, take}
use Rattle.first_hits.specs.Hits.{Held, stretch_met}
use Rattle.first_hits.proofs.CoverLaws.{Covers}
use Rattle.first_hits.proofs.cover.cover_stretch.Given as goal

abbrev pub invariant-loop-place : goal.invariant-loop-place
invariant-loop-place l =
    Held l.text l.rows l.names l.n l.hits × Covers l.text l.rows l.walk (stretch_met l.s.row l.s.first l.place) (take l.n l.names) l.initial.hits l.hits × (length l.hits ≡ length l.initial.hits)
