-- `obj::order_parts` meets its contract. The invariant: the order of the ids is their order from `i` on.
use mathlib.Core.Path.{sym, ◌∙◌}
use native.Mathlib.Omega.{arith}
use Rattle.obj.proofs.IdLaws.{ids-end, ids-part, ids_whole, ids-less, ids-greater, ids_next}
use Rattle.obj.proofs.order_parts.Goals as goal

pub returns-then-m-i : goal.returns-then-m-i
returns-then-m-i c =
    sym (c.loop-i.invariant ∙ ids_whole _ _ _ c.id_length-n.ensures c.id_length-m.ensures c.loop-i-test.true c.if-m-i.true)

pub returns-then-x-y : goal.returns-then-x-y
returns-then-x-y c =
    sym (c.loop-i.invariant ∙ ids-less _ _ _ c.id_length-n.ensures c.id_length-m.ensures c.loop-i-test.true c.if-m-i.false c.id_byte-x.ensures c.id_byte-y.ensures c.if-x-y.true)

pub returns-then-y-x : goal.returns-then-y-x
returns-then-y-x c =
    sym (c.loop-i.invariant ∙ ids-greater _ _ _ c.id_length-n.ensures c.id_length-m.ensures c.loop-i-test.true c.if-m-i.false c.id_byte-x.ensures c.id_byte-y.ensures c.if-y-x.true)

pub loop-i-preserved : goal.loop-i-preserved
loop-i-preserved c =
    c.loop-i.invariant ∙ ids_next _ _ _ c.id_length-n.ensures c.id_length-m.ensures c.loop-i-test.true c.if-m-i.false c.id_byte-x.ensures c.id_byte-y.ensures c.if-x-y.false c.if-y-x.false

pub returns-then-n-m : goal.returns-then-n-m
returns-then-n-m c =
    sym (c.loop-i.invariant ∙ ids-part _ _ _ c.id_length-n.ensures c.id_length-m.ensures c.loop-i-test.false (omega arith))

pub returns-else-n-m : goal.returns-else-n-m
returns-else-n-m c =
    sym (c.loop-i.invariant ∙ ids-end _ _ _ c.id_length-n.ensures c.id_length-m.ensures c.loop-i-test.false (omega arith))
