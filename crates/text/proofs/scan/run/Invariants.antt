-- `text::scan::run` meets its contract. The invariant: the run from the start ends where the run from `i` ends. The measure is what is left up to `stop`.
use mathlib.Core.Path.{◌≡◌}
use mathlib.Core.Bool.{Bool}
use Prim.Native.Nat.{ℕ, ◌-◌}
use Rattle.text.specs.Runs.{run_end, Tells}
use Rattle.text.proofs.scan.run.Given as goal

abbrev pub invariant-loop-i : goal.invariant-loop-i
invariant-loop-i g l = (p : ℕ → Bool) → Tells (goal.F-post g l.passes) p → run_end p l.s l.at l.end ≡ run_end p l.s l.i l.end

abbrev pub decreases-loop-i : goal.decreases-loop-i
decreases-loop-i g l = l.stop - l.i
