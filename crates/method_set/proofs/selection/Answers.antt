-- `selection` meets its contract.
use mathlib.Core.Path.{◌∙◌}
use native.Mathlib.Omega.{arith}
use lib.ListN.{length-set}
use Rattle.method_set.proofs.KeepLaws.{byte-bit, line-room, line-back, line-few, line-written}
use Rattle.method_set.proofs.selection.Goals as goal

pub bounds-out-1 : goal.bounds-out-1
bounds-out-1 c = simp length-set (omega arith)

pub slice_bounds-write_places-count : goal.slice_bounds-write_places-count
slice_bounds-write_places-count c = simp length-set (omega arith)

pub slice_bounds-write_places-start : goal.slice_bounds-write_places-start
slice_bounds-write_places-start c = simp length-set (omega arith)

pub write_places-count-requires : goal.write_places-count-requires
write_places-count-requires c =
    (c.requires.1, line-room c.args.rows.now c.args.walk.now c.args.hits.now c.args.k c.args.out.now c.from.result c.requires.2)

pub overflow_add-result : goal.overflow_add-result
overflow_add-result c = omega arith

pub shape_of-out : goal.shape_of-out
shape_of-out c =
    line-back c.args.rows.now c.args.walk.now c.args.hits.now c.args.k c.args.out.now c.from.result c.requires.2 c.write_places-count.new.places c.write_places-count.auto.places

pub returns : goal.returns
returns c =
    let said = c.from.ensures ∙ byte-bit c.flag_at-flag.result in (
      line-written c.args.rows.now c.args.walk.now c.args.hits.now c.args.k c.args.out.now c.from.result c.requires.2 c.write_places-count.ensures c.requires.1 c.write_places-count.auto.places c.flag_at-flag.ensures said,
      line-few c.args.rows.now c.args.walk.now c.args.hits.now c.args.k c.args.out.now c.from.result c.requires.2 c.write_places-count.ensures c.requires.1,
    )
