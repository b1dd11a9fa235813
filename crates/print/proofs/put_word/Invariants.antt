use Prim.Native.Nat.{◌+◌}
use mathlib.Core.Path.{◌≡◌}
use lib.ListN.{length, drop}
use Rattle.print.specs.Written.{written}
use Rattle.print.proofs.put_word.Given as goal

abbrev pub invariant-loop-j : goal.invariant-loop-j
invariant-loop-j l =
    (written l.initial.out l.at l.w ≡ written l.out (l.at + l.j) (drop l.j l.w)) × (length l.out ≡ length l.initial.out)
