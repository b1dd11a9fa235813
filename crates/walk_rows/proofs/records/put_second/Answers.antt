-- `put_second`.
use native.Mathlib.Omega.{arith}
use Rattle.walk_rows.proofs.StateLaws.{rows-most}
use Rattle.walk_rows.proofs.EnterLaws.{part-marks, marks-room, marks-most, second_holds}
use Rattle.walk_rows.proofs.records.put_second.Goals as goal

pub offset_bounds-walk-from : goal.offset_bounds-walk-from
offset_bounds-walk-from c =
    let most = rows-most c.requires.rowed.0 in omega arith

pub slice_bounds-consolidate_multiples-end : goal.slice_bounds-consolidate_multiples-end
slice_bounds-consolidate_multiples-end c = rows-most c.requires.rowed.0

pub put_record-requires : goal.put_record-requires
put_record-requires c =
    let marks = part-marks c.args.walk.now c.args.from c.args.n c.args.e c.requires.rowed.0 c.requires.rowed.1 c.args.i c.requires.first_unmarked.0 c.requires.first_unmarked.1 c.requires.first_unmarked.2 c.consolidate_multiples.ensures in
    let room = marks-room c.args.walk.now c.args.from c.args.n c.args.e c.requires.rowed.0 c.requires.rowed.1 c.args.i c.requires.first_unmarked.0 c.requires.first_unmarked.1 in
    let most = marks-most c.args.walk.now c.args.from c.args.n c.args.e c.requires.rowed.0 c.requires.rowed.1 c.args.i c.requires.first_unmarked.0 c.requires.first_unmarked.1 in
    (rw marks room, rw marks most)

pub returns : goal.returns
returns c =
    let marks = part-marks c.args.walk.now c.args.from c.args.n c.args.e c.requires.rowed.0 c.requires.rowed.1 c.args.i c.requires.first_unmarked.0 c.requires.first_unmarked.1 c.requires.first_unmarked.2 c.consolidate_multiples.ensures in
    second_holds c.args.walk.now c.args.from c.args.n c.args.e c.requires.rowed.0 c.requires.rowed.1 c.args.i c.requires.first_unmarked.0 c.requires.first_unmarked.1 marks c.put_record.ensures
