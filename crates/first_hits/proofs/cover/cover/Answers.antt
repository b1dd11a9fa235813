-- `first_hits::cover::cover` meets its contract.
use mathlib.Core.Path.{◌∙◌}
use native.Mathlib.Omega.{arith}
use lib.ListN.{take}
use Rattle.first_hits.proofs.KeyMembers.{packaged-at}
use Rattle.first_hits.proofs.SearchLaws.{placed_of}
use Rattle.first_hits.proofs.HitLaws.{covered-is}
use Rattle.first_hits.proofs.HeldLaws.{found-place, found-room, found-held, found-covers, new-covers}
use Rattle.first_hits.proofs.cover.cover.Goals as goal

pub id_of-id-requires : goal.id_of-id-requires
id_of-id-requires c =
    packaged-at c.args.text.now c.args.rows.now c.requires.library c.args.w.member.0 c.requires.held.1

pub offset_bounds-names-i : goal.offset_bounds-names-i
offset_bounds-names-i c =
    let placed = placed_of c.args.text.now c.args.rows.now (take c.args.n c.args.names.now) c.place_of.result c.place_of.ensures c.args.w.member.0 c.id_of-id.ensures in
    let below = found-place c.args.text.now c.args.rows.now c.args.names.now c.args.n c.args.hits.now c.requires.held.0 c.args.w c.requires.held.1 c.in-Ok.i placed c.in-Ok.is in
    omega (arith, below, c.requires.held.0.few, c.requires.library.laid.members)

pub bounds-names-i : goal.bounds-names-i
bounds-names-i c =
    let placed = placed_of c.args.text.now c.args.rows.now (take c.args.n c.args.names.now) c.place_of.result c.place_of.ensures c.args.w.member.0 c.id_of-id.ensures in
    let below = found-place c.args.text.now c.args.rows.now c.args.names.now c.args.n c.args.hits.now c.requires.held.0 c.args.w c.requires.held.1 c.in-Ok.i placed c.in-Ok.is in
    omega (arith, below, c.requires.held.0.few, c.requires.held.0.long)

pub hide-requires : goal.hide-requires
hide-requires c =
    let placed = placed_of c.args.text.now c.args.rows.now (take c.args.n c.args.names.now) c.place_of.result c.place_of.ensures c.args.w.member.0 c.id_of-id.ensures in
    found-room c.args.text.now c.args.rows.now c.args.names.now c.args.n c.args.hits.now c.requires.held.0 c.args.w c.requires.held.1 c.in-Ok.i placed c.in-Ok.is

pub returns-in-Ok : goal.returns-in-Ok
returns-in-Ok c =
    let placed = placed_of c.args.text.now c.args.rows.now (take c.args.n c.args.names.now) c.place_of.result c.place_of.ensures c.args.w.member.0 c.id_of-id.ensures in
    let covered = c.hide.ensures ∙ covered-is c.args.walk.now c.args.w.row _ c.args.hits.now in
    rw covered (record { held_2 = found-held c.args.text.now c.args.rows.now c.args.names.now c.args.n c.args.hits.now c.requires.held.0 c.args.w c.requires.held.1 c.in-Ok.i placed c.in-Ok.is _; covered = found-covers c.args.text.now c.args.rows.now c.args.names.now c.args.n c.args.hits.now c.requires.held.0 c.args.w c.requires.held.1 c.in-Ok.i placed c.in-Ok.is c.requires.library c.args.walk.now })

pub returns-in_default : goal.returns-in_default
returns-in_default c =
    let placed = placed_of c.args.text.now c.args.rows.now (take c.args.n c.args.names.now) c.place_of.result c.place_of.ensures c.args.w.member.0 c.id_of-id.ensures in
    record { held_2 = c.requires.held.0; covered = new-covers c.args.text.now c.args.rows.now c.args.names.now c.args.n c.args.hits.now c.requires.held.0 c.args.w c.requires.held.1 c.in_default.field-0 placed c.in_default.is c.args.walk.now }
