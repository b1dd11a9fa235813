-- `text::compare::order` meets its contract. The invariant: the order of the texts is their order from `i` on. The measure is what is left of the shorter.
use mathlib.Core.Path.{◌≡◌}
use Prim.Native.Nat.{◌-◌, ◌≤◌}
use lib.ListN.{drop}
use Rattle.text.specs.Compare.{order_of}
use Rattle.text.proofs.compare.order.Given as goal

abbrev pub invariant-loop-i : goal.invariant-loop-i
invariant-loop-i l = (order_of l.a l.b ≡ order_of (drop l.i l.a) (drop l.i l.b)) × (l.i ≤ l.n)

abbrev pub decreases-loop-i : goal.decreases-loop-i
decreases-loop-i l = l.n - l.i
