use Prim.Native.Nat.{◌+◌}
use mathlib.Core.Path.{◌≡◌}
use lib.ListN.{length, drop}
use Rattle.print.specs.Written.{written, line_end}
use Rattle.print.proofs.put_fields.Given as goal

abbrev pub invariant-loop-x : goal.invariant-loop-x
invariant-loop-x l =
    (written l.initial.out l.at (line_end l.ns) ≡ written l.out l.i (line_end (drop l.x-index l.ns)))
    × (l.i + length (line_end (drop l.x-index l.ns)) ≡ l.at + length (line_end l.ns)) × (length l.out ≡ length l.initial.out)
