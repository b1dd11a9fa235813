-- `input::split` meets its contract.
use mathlib.Core.Path.{◌∙◌}
use native.Mathlib.Omega.{arith}
use Rattle.text.specs.Cursors.{part}
use Rattle.input.proofs.InputLaws.{input-start, end-within, end-behind, split-whole, split-until, split-on}
use Rattle.input.proofs.split.Goals as goal

pub loop-at-init : goal.loop-at-init
loop-at-init c = (input-start _, omega arith)

pub returns-then-end-input : goal.returns-then-end-input
returns-then-end-input c =
    record { says = c.loop-at.invariant.0 ∙ split-whole c.args.input.now _ c.loop-at.invariant.1 c.line_end-end.ensures c.if-end-input.true; within = tt }

pub slice_bounds-is_q-count : goal.slice_bounds-is_q-count
slice_bounds-is_q-count c = omega (arith, end-behind c.args.input.now _ c.loop-at.invariant.1 c.line_end-end.ensures)

pub slice_bounds-is_q-start : goal.slice_bounds-is_q-start
slice_bounds-is_q-start c =
    omega (arith, end-behind c.args.input.now _ c.loop-at.invariant.1 c.line_end-end.ensures, end-within c.args.input.now _ c.loop-at.invariant.1 c.line_end-end.ensures)

pub slice_bounds-is_q-end : goal.slice_bounds-is_q-end
slice_bounds-is_q-end c =
    omega (arith, end-behind c.args.input.now _ c.loop-at.invariant.1 c.line_end-end.ensures, end-within c.args.input.now _ c.loop-at.invariant.1 c.line_end-end.ensures)

pub overflow_add-result : goal.overflow_add-result
overflow_add-result c =
    omega (arith, end-within c.args.input.now _ c.loop-at.invariant.1 c.line_end-end.ensures, c.if-end-input.false)

pub returns-then-is_q : goal.returns-then-is_q
unfolding part
returns-then-is_q c =
    record {
      says = c.loop-at.invariant.0 ∙ split-until c.args.input.now _ c.loop-at.invariant.1 c.line_end-end.ensures c.if-end-input.false c.is_q.ensures c.if-is_q.true;
      within = (c.loop-at.invariant.1, omega (arith, end-within c.args.input.now _ c.loop-at.invariant.1 c.line_end-end.ensures, c.if-end-input.false));
    }

pub overflow_add-at : goal.overflow_add-at
overflow_add-at c =
    omega (arith, end-within c.args.input.now _ c.loop-at.invariant.1 c.line_end-end.ensures, c.if-end-input.false)

pub loop-at-smaller : goal.loop-at-smaller
loop-at-smaller c =
    omega (arith, end-within c.args.input.now _ c.loop-at.invariant.1 c.line_end-end.ensures, end-behind c.args.input.now _ c.loop-at.invariant.1 c.line_end-end.ensures, c.if-end-input.false)

pub loop-at-preserved : goal.loop-at-preserved
unfolding part
loop-at-preserved c = (
  c.loop-at.invariant.0 ∙ split-on c.args.input.now _ c.loop-at.invariant.1 c.line_end-end.ensures c.if-end-input.false c.is_q.ensures c.if-is_q.false,
  omega (arith, end-within c.args.input.now _ c.loop-at.invariant.1 c.line_end-end.ensures, c.if-end-input.false),
)
