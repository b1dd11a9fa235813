-- `obj::order_ids` meets its contract.
use mathlib.Core.Path.{◌∙◌}
use native.Mathlib.Omega.{arith}
use Rattle.obj.proofs.IdLaws.{cut_short, order-names, order-whole-ids}
use Rattle.obj.proofs.order_ids.Goals as goal

pub returns-then-same_before : goal.returns-then-same_before
returns-then-same_before c =
    c.order.ensures ∙ order-names c.args.text.now c.args.a c.args.b (c.same_before.ensures c.if-same_before.true) c.span-m.ensures c.span-n.ensures

pub order_parts-requires : goal.order_parts-requires
order_parts-requires c =
    (cut_short c.args.a.path_len _ 4294967295 c.span-p.ensures (omega arith), cut_short c.args.a.len _ 4294967295 c.span-m.ensures (omega arith), cut_short c.args.b.path_len _ 4294967295 c.span-q.ensures (omega arith), cut_short c.args.b.len _ 4294967295 c.span-n.ensures (omega arith))

pub returns : goal.returns
returns c =
    c.order_parts.ensures ∙ order-whole-ids c.args.text.now c.args.a c.args.b c.span-p.ensures c.span-m.ensures c.span-q.ensures c.span-n.ensures
