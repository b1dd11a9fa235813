-- `text::scan::until` meets its contract. The invariant: the run from the start ends where the run from `i` ends, and `i` is not past `stop`. The measure is
-- what is left up to `stop`.
use mathlib.Core.Path.{◌≡◌}
use Prim.Native.Nat.{◌-◌, ◌≤◌}
use Rattle.text.specs.Runs.{other, run_end}
use Rattle.text.proofs.scan.until.Given as goal

abbrev pub invariant-loop-i : goal.invariant-loop-i
invariant-loop-i l = (run_end (other l.sep) l.s l.at l.end ≡ run_end (other l.sep) l.s l.i l.end) × (l.i ≤ l.stop)

abbrev pub decreases-loop-i : goal.decreases-loop-i
decreases-loop-i l = l.stop - l.i
