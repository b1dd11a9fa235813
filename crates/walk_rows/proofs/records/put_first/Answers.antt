-- `put_first`.
use mathlib.Core.Path.{ap, ◌∙◌}
use native.Mathlib.Omega.{arith}
use lib.ListN.{length}
use Rattle.walk_rows.specs.Records.{first_put}
use Rattle.walk_rows.proofs.EnterLaws.{type-inside, first-room, first-long, first_holds}
use Rattle.walk_rows.proofs.records.put_first.Goals as goal

pub put_record-requires : goal.put_record-requires
put_record-requires c =
    (first-room c.args.walk.now 0 c.args.n c.args.e c.requires.0 c.requires.1 c.requires.2, c.requires.0.most)

pub overflow_add-walk : goal.overflow_add-walk
overflow_add-walk c =
    let l = first-room c.args.walk.now 0 c.args.n c.args.e c.requires.0 c.requires.1 c.requires.2 in
    omega arith

pub overflow_cast-walk : goal.overflow_cast-walk
overflow_cast-walk c =
    let l = first-room c.args.walk.now 0 c.args.n c.args.e c.requires.0 c.requires.1 c.requires.2 in
    omega arith

pub offset_bounds-walk-t : goal.offset_bounds-walk-t
offset_bounds-walk-t c =
    let l = type-inside c.args.walk.now 0 c.args.n c.args.e c.requires.0 c.requires.1 in
    omega arith

pub bounds-walk-t : goal.bounds-walk-t
bounds-walk-t c =
    let l = type-inside c.args.walk.now 0 c.args.n c.args.e c.requires.0 c.requires.1 in
    let e = ap length c.put_record.ensures ∙ first-long c.args.walk.now 0 c.args.n c.args.e c.requires.0 c.requires.1 c.requires.2 in
    omega arith

pub returns : goal.returns
unfolding first_put
returns c =
    first_holds c.args.walk.now 0 c.args.n c.args.e c.requires.0 c.requires.1 c.requires.2 c.put_record.ensures
