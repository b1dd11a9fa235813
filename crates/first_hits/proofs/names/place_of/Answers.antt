-- `first_hits::names::place_of` meets its contract. The invariant: the names before `low` come before the id, those from `high` on after it.
use mathlib.Core.Path.{◌∙◌}
use Prim.Native.Nat.{◌-◌, ◌+◌, ◌/◌, ◌<◌}
use native.Mathlib.Omega.{arith}
use lib.ListN.{get_or}
use Rattle.obj.specs.Ids.{id_meant}
use Rattle.first_hits.proofs.KeyMembers.{packaged-at}
use Rattle.first_hits.proofs.SearchLaws.{between-less, between-greater, between-equal, between-end, id-read, name-key, halfway}
use Rattle.first_hits.proofs.names.place_of.Goals as goal

pub id_of-other-requires : goal.id_of-other-requires
id_of-other-requires c =
    let mid = c.loop-low.low + (c.loop-low.high - c.loop-low.low) / 2 in
    let half = halfway c.loop-low.low c.loop-low.high c.loop-low-test.true in
    let key = name-key c.args.text.now c.args.rows.now c.args.names.now c.args.n c.requires.2 c.requires.1 mid (omega (arith, c.loop-low.invariant.order.1, half.1)) in
    packaged-at c.args.text.now c.args.rows.now c.requires.0 (get_or c.args.names.now mid 0) key

pub loop-low-preserved-in-Less : goal.loop-low-preserved-in-Less
loop-low-preserved-in-Less c =
    let mid = c.loop-low.low + (c.loop-low.high - c.loop-low.low) / 2 in
    let half = halfway c.loop-low.low c.loop-low.high c.loop-low-test.true in
    let inside : mid < c.args.n = omega (arith, c.loop-low.invariant.order.1, half.1) in
    let read = c.id_of-other.ensures ∙ id-read c.args.text.now c.args.rows.now (get_or c.args.names.now mid 0) in
    between-less c.args.text.now c.args.rows.now c.args.names.now c.args.n c.requires.2 c.requires.1 (id_meant c.args.text.now c.args.id) mid inside (id_meant c.args.text.now c.id_of-other.result) read c.order_ids.result c.order_ids.ensures c.loop-low.low c.loop-low.high half.0 half.1 c.in-Less.is c.loop-low.invariant

pub returns-in-Equal : goal.returns-in-Equal
returns-in-Equal c =
    let mid = c.loop-low.low + (c.loop-low.high - c.loop-low.low) / 2 in
    let half = halfway c.loop-low.low c.loop-low.high c.loop-low-test.true in
    let inside : mid < c.args.n = omega (arith, c.loop-low.invariant.order.1, half.1) in
    let read = c.id_of-other.ensures ∙ id-read c.args.text.now c.args.rows.now (get_or c.args.names.now mid 0) in
    between-equal c.args.text.now c.args.rows.now c.args.names.now c.args.n c.requires.2 c.requires.1 (id_meant c.args.text.now c.args.id) mid inside (id_meant c.args.text.now c.id_of-other.result) read c.order_ids.result c.order_ids.ensures c.in-Equal.is

pub loop-low-preserved : goal.loop-low-preserved
loop-low-preserved c =
    let mid = c.loop-low.low + (c.loop-low.high - c.loop-low.low) / 2 in
    let half = halfway c.loop-low.low c.loop-low.high c.loop-low-test.true in
    let inside : mid < c.args.n = omega (arith, c.loop-low.invariant.order.1, half.1) in
    let read = c.id_of-other.ensures ∙ id-read c.args.text.now c.args.rows.now (get_or c.args.names.now mid 0) in
    between-greater c.args.text.now c.args.rows.now c.args.names.now c.args.n c.requires.2 c.requires.1 (id_meant c.args.text.now c.args.id) mid inside (id_meant c.args.text.now c.id_of-other.result) read c.order_ids.result c.order_ids.ensures c.loop-low.low c.loop-low.high half.0 half.1 c.in-Greater.is c.loop-low.invariant

pub returns : goal.returns
returns c =
    between-end c.args.text.now c.args.rows.now c.args.names.now c.args.n c.requires.2 c.requires.1 (id_meant c.args.text.now c.args.id) c.loop-low.low c.loop-low.high c.loop-low-test.false c.loop-low.invariant
