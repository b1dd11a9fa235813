-- `text::scan::met_in_eight` meets its contract. The invariant: `met` says it of the first k bytes. The measure is what is left of the eight.
use Prim.Native.Nat.{◌≤◌}
use Rattle.text.specs.Runs.{Met}
use Rattle.text.proofs.scan.met_in_eight.Given as goal

abbrev pub invariant-loop-k : goal.invariant-loop-k
invariant-loop-k l = (Met l.s l.i l.k l.sep l.met) × (l.k ≤ 8)
