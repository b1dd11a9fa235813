-- `embed`.
use Prim.Native.Nat.{◌<◌}
use native.Mathlib.Omega.{arith}
use Rattle.walk_rows.proofs.StateLaws.{rows-most}
use Rattle.walk_rows.proofs.LowerLaws.{enters_none, enters-as, row_is, row_in, level_in, row-below, embeds-none, embeds-some, fields_fit, fields-typed}
use Rattle.walk_rows.proofs.lower.embed.Goals as goal

pub returns-then-kind_number-ne-STRUCT : goal.returns-then-kind_number-ne-STRUCT
returns-then-kind_number-ne-STRUCT c =
    let inside : c.args.i < c.args.n = omega arith in
    let is = row_is c.requires.walked.0 c.args.i inside c.record_at-e.result c.record_at-e.ensures in
    let typed = row_in c.requires.walked.0 c.args.i inside c.record_at-e.result c.record_at-e.ensures in
    enters-as _ _ (embeds-none c.args.text.now c.args.rows.now c.args.walk.now c.args.n c.args.i c.args.from c.record_at-e.result is c.requires.library typed c.under-u.ensures c.kind_number.ensures c.if-kind_number-ne-STRUCT.true) (enters_none c.requires.walked.0)

pub overflow_add-up : goal.overflow_add-up
overflow_add-up c =
    let inside : c.args.i < c.args.n = omega arith in
    let is = row_is c.requires.walked.0 c.args.i inside c.record_at-e.result c.record_at-e.ensures in
    let typed = row_in c.requires.walked.0 c.args.i inside c.record_at-e.result c.record_at-e.ensures in
    let level = level_in c.requires.walked.0 c.args.i inside c.record_at-e.result c.record_at-e.ensures in
    let most = rows-most c.requires.walked.0.rowed in
    omega arith

pub embed_fields-requires : goal.embed_fields-requires
embed_fields-requires c =
    let inside : c.args.i < c.args.n = omega arith in
    let is = row_is c.requires.walked.0 c.args.i inside c.record_at-e.result c.record_at-e.ensures in
    let typed = row_in c.requires.walked.0 c.args.i inside c.record_at-e.result c.record_at-e.ensures in
    record { library = c.requires.library; walked = (c.requires.walked.0, row-below c.requires.walked.0 c.args.i inside c.record_at-e.result c.record_at-e.ensures c.args.from _ c.requires.walked.1 c.requires.walked.2 c.requires.walked.3, fields_fit c.args.text.now c.args.rows.now c.args.walk.now c.args.n c.args.i c.args.from c.record_at-e.result is c.requires.library typed c.under-u.ensures c.kind_number.ensures c.if-kind_number-ne-STRUCT.false c.first_member-first.ensures c.member_total-total.ensures, fields-typed c.args.text.now c.args.rows.now c.args.walk.now c.args.n c.args.i c.args.from c.record_at-e.result is c.requires.library typed c.under-u.ensures c.kind_number.ensures c.if-kind_number-ne-STRUCT.false c.first_member-first.ensures c.member_total-total.ensures) }

pub returns : goal.returns
returns c =
    let inside : c.args.i < c.args.n = omega arith in
    let is = row_is c.requires.walked.0 c.args.i inside c.record_at-e.result c.record_at-e.ensures in
    let typed = row_in c.requires.walked.0 c.args.i inside c.record_at-e.result c.record_at-e.ensures in
    enters-as _ _ (embeds-some c.args.text.now c.args.rows.now c.args.walk.now c.args.n c.args.i c.args.from c.record_at-e.result is c.requires.library typed c.under-u.ensures c.kind_number.ensures c.if-kind_number-ne-STRUCT.false c.first_member-first.ensures c.member_total-total.ensures) c.embed_fields.ensures
