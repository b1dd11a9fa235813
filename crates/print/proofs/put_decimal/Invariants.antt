use Prim.Native.Nat.{◌≤◌}
use mathlib.Core.Path.{◌≡◌}
use lib.ListN.{length, drop}
use Rattle.text.specs.Bytes.{decimal, digits_on}
use Rattle.print.proofs.put_decimal.Given as goal

abbrev pub invariant-loop-i : goal.invariant-loop-i
invariant-loop-i l =
    (decimal l.n ≡ digits_on l.i l.rest (drop l.i l.text)) × (l.i ≤ 20) × (length l.text ≡ 20) × (l.out ≡ l.initial.out)

abbrev pub decreases-loop-i : goal.decreases-loop-i
decreases-loop-i l = l.i
