-- `same_parts` meets its contract. The invariant: the parts before `i` have one label each.
use mathlib.Core.Path.{◌≡◌}
use Prim.Native.Nat.{ℕ, ◌<◌}
use lib.ListN.{get_or}
use Rattle.type_parts.specs.Parts.{part_at}
use Rattle.twins.proofs.agreeing.same_parts.Given as goal

abbrev pub invariant-loop-i : goal.invariant-loop-i
invariant-loop-i l =
    ((m : ℕ) → m < l.i → get_or l.labels (part_at l.rows l.x m).0 0 ≡ get_or l.labels (part_at l.rows l.y m).0 0)
