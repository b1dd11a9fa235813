-- `text::compare::order` meets its contract. The invariant: the order of the texts is their order from `i` on. The measure is what is left of the shorter.
use mathlib.Core.Path.{sym, ◌∙◌}
use native.Mathlib.Omega.{arith}
use lib.ListN.{length, drop}
use Rattle.text.proofs.RunLaws.{stop-short, stop-before}
use Rattle.text.proofs.CompareLaws.{four-less, four-greater, four-next, slice-order}
use Rattle.std.proofs.lemmas.List.{take_rest}
use Rattle.text.proofs.compare.order.Goals as goal

pub overflow_sub-n : goal.overflow_sub-n
overflow_sub-n c = c.loop-i.invariant.1

pub four-x-requires : goal.four-x-requires
four-x-requires c =
    omega (arith, c.loop-i.invariant.1, c.loop-i-test.true, stop-short c.args.a.now (length c.args.b.now) c.stop-n.ensures)

pub four-y-requires : goal.four-y-requires
four-y-requires c =
    omega (arith, c.loop-i.invariant.1, c.loop-i-test.true, stop-before c.args.a.now (length c.args.b.now) c.stop-n.ensures)

pub returns-then-x-y : goal.returns-then-x-y
returns-then-x-y c =
    sym (c.loop-i.invariant.0 ∙ four-less c.args.a.now c.args.b.now c.loop-i.i (omega (arith, c.loop-i.invariant.1, c.loop-i-test.true, stop-short c.args.a.now (length c.args.b.now) c.stop-n.ensures)) (omega (arith, c.loop-i.invariant.1, c.loop-i-test.true, stop-before c.args.a.now (length c.args.b.now) c.stop-n.ensures)) (λ j. (c.type_inv.a j).fits) (λ j. (c.type_inv.b j).fits) c.four-x.ensures.value c.four-y.ensures.value c.if-x-y.true)

pub returns-then-y-x : goal.returns-then-y-x
returns-then-y-x c =
    sym (c.loop-i.invariant.0 ∙ four-greater c.args.a.now c.args.b.now c.loop-i.i (omega (arith, c.loop-i.invariant.1, c.loop-i-test.true, stop-short c.args.a.now (length c.args.b.now) c.stop-n.ensures)) (omega (arith, c.loop-i.invariant.1, c.loop-i-test.true, stop-before c.args.a.now (length c.args.b.now) c.stop-n.ensures)) (λ j. (c.type_inv.a j).fits) (λ j. (c.type_inv.b j).fits) c.four-x.ensures.value c.four-y.ensures.value c.if-y-x.true)

pub overflow_add-i : goal.overflow_add-i
overflow_add-i c = omega (arith, c.loop-i.invariant.1, c.loop-i-test.true)

pub loop-i-smaller : goal.loop-i-smaller
loop-i-smaller c = omega (arith, c.loop-i.invariant.1, c.loop-i-test.true)

pub loop-i-preserved : goal.loop-i-preserved
loop-i-preserved c =
    (c.loop-i.invariant.0 ∙ four-next c.args.a.now c.args.b.now c.loop-i.i (omega (arith, c.loop-i.invariant.1, c.loop-i-test.true, stop-short c.args.a.now (length c.args.b.now) c.stop-n.ensures)) (omega (arith, c.loop-i.invariant.1, c.loop-i-test.true, stop-before c.args.a.now (length c.args.b.now) c.stop-n.ensures)) (λ j. (c.type_inv.a j).fits) (λ j. (c.type_inv.b j).fits) c.four-x.ensures.value c.four-y.ensures.value c.if-x-y.false c.if-y-x.false, omega (arith, c.loop-i.invariant.1, c.loop-i-test.true))

pub slice_bounds-cmp-count : goal.slice_bounds-cmp-count
slice_bounds-cmp-count c =
    omega (arith, c.loop-i.invariant.1, stop-short c.args.a.now (length c.args.b.now) c.stop-n.ensures)

pub slice_bounds-cmp-start : goal.slice_bounds-cmp-start
slice_bounds-cmp-start c =
    omega (arith, c.loop-i.invariant.1, stop-short c.args.a.now (length c.args.b.now) c.stop-n.ensures)

pub slice_bounds-cmp-count-2 : goal.slice_bounds-cmp-count-2
slice_bounds-cmp-count-2 c =
    omega (arith, c.loop-i.invariant.1, stop-before c.args.a.now (length c.args.b.now) c.stop-n.ensures)

pub slice_bounds-cmp-start-2 : goal.slice_bounds-cmp-start-2
slice_bounds-cmp-start-2 c =
    omega (arith, c.loop-i.invariant.1, stop-before c.args.a.now (length c.args.b.now) c.stop-n.ensures)

pub returns : goal.returns
returns c =
    let i = c.loop-i.i in
    let a = take_rest c.args.a.now i in
    let b = take_rest c.args.b.now i in
    c.cmp.ensures ∙ rw (a, b) (slice-order (drop i c.args.a.now) (drop i c.args.b.now)) ∙ sym c.loop-i.invariant.0
