-- `text::scan::run_met` meets its contract. The invariant: the run from the start goes on from `i`. The measure is what is left of the text.
use mathlib.Core.Bool.{Bool}
use Prim.Native.Nat.{ℕ, ◌-◌}
use lib.ListN.{length}
use Rattle.text.specs.Runs.{Tells}
use Rattle.text.proofs.RunLaws.{GoesOn}
use Rattle.text.proofs.scan.run_met.Given as goal

abbrev pub invariant-loop-i : goal.invariant-loop-i
invariant-loop-i g l = (p : ℕ → Bool) → Tells (goal.F-post g l.passes) p → GoesOn p l.s l.at l.i

abbrev pub decreases-loop-i : goal.decreases-loop-i
decreases-loop-i g l = length l.s - l.i
