-- `obj::order_parts` meets its contract. The invariant: the order of the ids is their order from `i` on.
use mathlib.Core.Path.{◌≡◌}
use lib.ListN.{drop}
use Rattle.text.specs.Compare.{order_of}
use Rattle.obj.specs.Ids.{joined}
use Rattle.obj.proofs.order_parts.Given as goal

abbrev pub invariant-loop-i : goal.invariant-loop-i
invariant-loop-i l =
    order_of (joined l.f l.p l.a) (joined l.g l.q l.b) ≡ order_of (drop l.i (joined l.f l.p l.a)) (drop l.i (joined l.g l.q l.b))
