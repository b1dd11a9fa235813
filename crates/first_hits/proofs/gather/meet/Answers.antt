-- `first_hits::gather::meet` meets its contract.
use mathlib.Core.Path.{◌∙◌}
use native.Mathlib.Omega.{arith}
use lib.ListN.{take}
use Rattle.first_hits.proofs.KeyMembers.{packaged-at}
use Rattle.first_hits.proofs.SearchLaws.{placed_of}
use Rattle.first_hits.proofs.HitLaws.{marked-is}
use Rattle.first_hits.proofs.HeldLaws.{found-place, found-room, found-held, found-carries, new-place, new-fits, new-held, new-carries}
use Rattle.first_hits.proofs.gather.meet.Goals as goal

pub id_of-id-requires : goal.id_of-id-requires
id_of-id-requires c =
    packaged-at c.args.text.now c.args.rows.now c.requires.library c.args.w.member.0 c.requires.held.1

pub offset_bounds-names-i : goal.offset_bounds-names-i
offset_bounds-names-i c =
    let placed = placed_of c.args.text.now c.args.rows.now (take c.args.n c.args.names.now) c.place_of.result c.place_of.ensures c.args.w.member.0 c.id_of-id.ensures in
    let below = found-place c.args.text.now c.args.rows.now c.args.names.now c.args.n c.args.hits.now c.requires.held.0 c.args.w c.requires.held.1 c.in-Ok.i placed c.in-Ok.is in
    omega (arith, below, c.requires.held.0.few, c.requires.library.laid.members)

pub bounds-names-i : goal.bounds-names-i
bounds-names-i c =
    let placed = placed_of c.args.text.now c.args.rows.now (take c.args.n c.args.names.now) c.place_of.result c.place_of.ensures c.args.w.member.0 c.id_of-id.ensures in
    let below = found-place c.args.text.now c.args.rows.now c.args.names.now c.args.n c.args.hits.now c.requires.held.0 c.args.w c.requires.held.1 c.in-Ok.i placed c.in-Ok.is in
    omega (arith, below, c.requires.held.0.few, c.requires.held.0.long)

pub meet_again-requires : goal.meet_again-requires
meet_again-requires c =
    let placed = placed_of c.args.text.now c.args.rows.now (take c.args.n c.args.names.now) c.place_of.result c.place_of.ensures c.args.w.member.0 c.id_of-id.ensures in
    found-room c.args.text.now c.args.rows.now c.args.names.now c.args.n c.args.hits.now c.requires.held.0 c.args.w c.requires.held.1 c.in-Ok.i placed c.in-Ok.is

pub put_name-requires : goal.put_name-requires
put_name-requires c =
    let placed = placed_of c.args.text.now c.args.rows.now (take c.args.n c.args.names.now) c.place_of.result c.place_of.ensures c.args.w.member.0 c.id_of-id.ensures in
    let fits = new-fits c.args.text.now c.args.rows.now c.args.names.now c.args.n c.args.hits.now c.requires.held.0 c.args.w c.requires.held.1 c.in-Err.i placed c.in-Err.is in
    (omega (arith, new-place c.args.text.now c.args.rows.now c.args.names.now c.args.n c.args.hits.now c.requires.held.0 c.args.w c.requires.held.1 c.in-Err.i placed c.in-Err.is), omega (arith, fits, c.requires.held.0.long))

pub returns-in-Ok : goal.returns-in-Ok
returns-in-Ok c =
    let placed = placed_of c.args.text.now c.args.rows.now (take c.args.n c.args.names.now) c.place_of.result c.place_of.ensures c.args.w.member.0 c.id_of-id.ensures in
    let marked = c.meet_again.ensures ∙ marked-is c.args.walk.now c.args.w.row _ c.args.hits.now in
    rw marked (record { held_2 = found-held c.args.text.now c.args.rows.now c.args.names.now c.args.n c.args.hits.now c.requires.held.0 c.args.w c.requires.held.1 c.in-Ok.i placed c.in-Ok.is _; settles = found-carries c.args.text.now c.args.rows.now c.args.names.now c.args.n c.args.hits.now c.requires.held.0 c.args.w c.requires.held.1 c.in-Ok.i placed c.in-Ok.is c.requires.library c.args.walk.now })

pub returns-in-Err : goal.returns-in-Err
returns-in-Err c =
    let placed = placed_of c.args.text.now c.args.rows.now (take c.args.n c.args.names.now) c.place_of.result c.place_of.ensures c.args.w.member.0 c.id_of-id.ensures in
    record { held_2 = new-held c.args.text.now c.args.rows.now c.args.names.now c.args.n c.args.hits.now c.requires.held.0 c.args.w c.requires.held.1 c.in-Err.i placed c.in-Err.is c.put_name.new.names c.put_name.ensures.names_len_unchanged c.put_name.ensures.names_after; settles = new-carries c.args.text.now c.args.rows.now c.args.names.now c.args.n c.args.hits.now c.requires.held.0 c.args.w c.requires.held.1 c.in-Err.i placed c.in-Err.is c.put_name.new.names c.put_name.ensures.names_len_unchanged c.put_name.ensures.names_after c.args.walk.now }
