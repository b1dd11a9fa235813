-- `lines::adding::put_elements` meets its contract.
use mathlib.Core.Path.{sym, ap, ◌∙◌}
use lib.ListN.{length}
use native.Mathlib.Omega.{arith}
use Rattle.objects.specs.Bounds.{members_at}
use Rattle.lines.proofs.TupleLaws.{all_done, all-wrong, all_more, elements-done, elements-end, elements-more, element-members, still-tuple, turn, turn_end, element-ready}
use Rattle.lines.proofs.adding.put_elements.Goals as goal

pub returns : goal.returns
returns c =
    record { value = sym (c.loop-d.invariant.6 ∙ all_done _ _ c.done.ensures c.loop-d-test.false); laid = c.loop-d.invariant.0; rows_after = sym (c.loop-d.invariant.2 ∙ turn_end _ (elements-done _ _ c.done.ensures c.loop-d-test.false)); rows_after_2 = omega (arith, ap length (elements-done c.args.s.now c.loop-d.d c.done.ensures c.loop-d-test.false), c.loop-d.invariant.3) }

pub put_element-requires : goal.put_element-requires
put_element-requires c =
    element-ready c.args.s.now _ c.loop-d.invariant.0 c.loop-d.invariant.1 (omega (arith, ap length (elements-more c.args.s.now c.loop-d.d _ c.small.ensures c.in-Some.is), c.loop-d.invariant.3, c.requires.2)) (omega (arith, ap length (elements-more c.args.s.now c.loop-d.d _ c.small.ensures c.in-Some.is), c.loop-d.invariant.5))

pub loop-d-smaller : goal.loop-d-smaller
loop-d-smaller c = omega (arith, ap length (elements-more c.args.s.now c.loop-d.d _ c.small.ensures c.in-Some.is))

pub loop-d-preserved : goal.loop-d-preserved
loop-d-preserved c =
    let more = elements-more c.args.s.now c.loop-d.d _ c.small.ensures c.in-Some.is in
    let shorter = ap length more in (
      c.put_element.ensures.holds.laid,
      still-tuple _ _ _ _ c.put_element.ensures.holds c.loop-d.invariant.1,
      c.loop-d.invariant.2 ∙ turn _ _ _ _ c.put_element.ensures.holds _ more,
      omega (arith, shorter, c.put_element.ensures.rows_after, c.loop-d.invariant.3),
      c.put_element.auto.rows ∙ c.loop-d.invariant.4,
      omega (arith, shorter, element-members c.args.s.now _ _ _ c.put_element.ensures.holds, c.put_element.ensures.rows_after, c.put_element.auto.rows, ap members_at c.put_element.auto.rows, c.loop-d.invariant.5),
      c.loop-d.invariant.6 ∙ all_more _ _ _ c.small.ensures c.in-Some.is,
    )

pub returns-in_default : goal.returns-in_default
returns-in_default c =
    record { value = sym (c.loop-d.invariant.6 ∙ all-wrong _ _ _ c.small.ensures c.done.ensures c.loop-d-test.true c.in_default.is); laid = c.loop-d.invariant.0; rows_after = sym (c.loop-d.invariant.2 ∙ turn_end _ (elements-end _ _ _ c.small.ensures c.in_default.is)); rows_after_2 = omega (arith, ap length (elements-end c.args.s.now c.loop-d.d _ c.small.ensures c.in_default.is), c.loop-d.invariant.3) }
