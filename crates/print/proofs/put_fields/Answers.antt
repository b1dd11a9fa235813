use native.Mathlib.Omega.{arith}
use mathlib.Core.Path.{◌∙◌}
use Rattle.print.proofs.LineLaws.{next-length, last-length, fields-next, fields-end}
use Rattle.print.proofs.WrittenLaws.{wrote-length}
use Rattle.print.proofs.put_fields.Goals as goal

pub put_field-i-requires : goal.put_field-i-requires
put_field-i-requires c = omega (arith, next-length c.args.ns.now c.loop-x.x-index c.loop-x-test.true)

pub loop-x-preserved : goal.loop-x-preserved
loop-x-preserved c = (
  c.loop-x.invariant.0 ∙ fields-next c.args.ns.now c.loop-x.x-index c.loop-x-test.true c.put_field-i.ensures,
  omega (arith, next-length c.args.ns.now c.loop-x.x-index c.loop-x-test.true, c.put_field-i.ensures.past),
  wrote-length c.put_field-i.ensures ∙ c.loop-x.invariant.2,
)

pub bounds-out-i : goal.bounds-out-i
bounds-out-i c = omega (arith, last-length c.args.ns.now c.loop-x.x-index c.loop-x-test.false)

pub overflow_add-result : goal.overflow_add-result
overflow_add-result c = omega (arith, last-length c.args.ns.now c.loop-x.x-index c.loop-x-test.false)

pub returns : goal.returns
returns c =
    fields-end c.args.ns.now c.loop-x.x-index _ _ c.loop-x.out _ c.loop-x-test.false c.loop-x.invariant.0 c.loop-x.invariant.1
