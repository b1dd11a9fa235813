-- `write_places`: the places behind `left` are written.
use mathlib.Core.Path.{◌≡◌}
use Prim.Native.Nat.{◌<◌}
use lib.ListN.{length}
use mir.Syntax.{w32}
use mir.Val.{Fits}
use Rattle.walk_rows.proofs.PlaceLaws.{Climbs}
use Rattle.walk_rows.proofs.places.write_places.Given as goal

abbrev pub invariant-loop-left : goal.invariant-loop-left
invariant-loop-left l =
    (length l.places ≡ length l.initial.places) × Climbs l.walk l.d l.i l.last l.places l.left l.at × (l.d < length l.places) × Fits w32 l.at

abbrev pub decreases-loop-left : goal.decreases-loop-left
decreases-loop-left l = l.left
