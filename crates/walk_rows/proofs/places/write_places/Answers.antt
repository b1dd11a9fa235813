-- `write_places`: the places behind `left` are written.
use Rattle.std.proofs.Common.{rules}
use mathlib.Core.Path.{◌∙◌}
use Prim.Native.Nat.{◌<◌}
use native.Mathlib.Omega.{arith}
use lib.ListN.{length, length-set}
use Rattle.walk_rows.proofs.RecordLaws.{level-read}
use Rattle.walk_rows.proofs.PlaceLaws.{climb-start, climb-more, climb-end}
use Rattle.walk_rows.proofs.places.write_places.Goals as goal

pub overflow_cast-d : goal.overflow_cast-d
overflow_cast-d c =
    let level = level-read c.args.walk.now c.args.i c.record_at-d.result c.record_at-d.ensures in
    omega arith

pub offset_bounds-places-d : goal.offset_bounds-places-d
offset_bounds-places-d c =
    let level = level-read c.args.walk.now c.args.i c.record_at-d.result c.record_at-d.ensures in
    omega arith

pub bounds-places-d : goal.bounds-places-d
bounds-places-d c =
    let level = level-read c.args.walk.now c.args.i c.record_at-d.result c.record_at-d.ensures in
    omega arith

pub loop-left-init : goal.loop-left-init
loop-left-init c =
    let level = level-read c.args.walk.now c.args.i c.record_at-d.result c.record_at-d.ensures in
    let inside : c.record_at-d.result.level < length c.args.places.now = omega arith in
    (search rules, climb-start _ _ _ _ c.args.places.now inside, simp length-set inside, search rules)

pub offset_bounds-places-left : goal.offset_bounds-places-left
offset_bounds-places-left c =
    let level = level-read c.args.walk.now c.args.i c.record_at-d.result c.record_at-d.ensures in
    omega arith

pub bounds-places-left : goal.bounds-places-left
bounds-places-left c =
    omega arith

pub loop-left-smaller : goal.loop-left-smaller
loop-left-smaller c = omega arith

pub loop-left-preserved : goal.loop-left-preserved
loop-left-preserved c =
    (length-set c.loop-left.places _ _ ∙ c.loop-left.invariant.0, climb-more _ _ _ _ c.loop-left.invariant.1 c.loop-left-test.true c.loop-left.invariant.2 c.record_at-e.result c.record_at-e.ensures, simp length-set c.loop-left.invariant.2, search rules)

pub overflow_add-result : goal.overflow_add-result
overflow_add-result c =
    let level = level-read c.args.walk.now c.args.i c.record_at-d.result c.record_at-d.ensures in
    omega arith

pub shape_of-places : goal.shape_of-places
shape_of-places c = c.loop-left.invariant.0 ∙ length-set c.args.places.now _ _

pub returns : goal.returns
returns c =
    let level = level-read c.args.walk.now c.args.i c.record_at-d.result c.record_at-d.ensures in
    climb-end _ _ _ _ c.loop-left.invariant.1 c.loop-left-test.false level
