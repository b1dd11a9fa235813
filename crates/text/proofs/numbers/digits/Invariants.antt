-- `text::numbers::digits` meets its contract. The invariant: the field is the number v, at most max, followed by the digits from `i` on. The measure is what is left up to `stop`.
use mathlib.Core.Path.{◌≡◌}
use Prim.Native.Nat.{◌-◌, ◌≤◌}
use Rattle.text.specs.Cursors.{part}
use Rattle.text.specs.Runs.{digits_left}
use Rattle.text.proofs.numbers.digits.Given as goal

abbrev pub invariant-loop-i : goal.invariant-loop-i
invariant-loop-i l =
    (digits_left l.max 0 (part l.s l.at l.end) ≡ digits_left l.max l.v (part l.s l.i l.end)) × (l.v ≤ l.max)

abbrev pub decreases-loop-i : goal.decreases-loop-i
decreases-loop-i l = l.stop - l.i
