-- `frames::each` meets its contract. The invariant: the buffer keeps its length, and what is done with an input may be done with one more.
use mathlib.Core.Path.{◌≡◌}
use lib.ListN.{length}
use Rattle.frames.proofs.each.Given as goal

abbrev pub invariant-loop : goal.invariant-loop
invariant-loop g l = (length l.buf ≡ length l.initial.buf) × goal.F-IsAlwaysCallable g l.one
