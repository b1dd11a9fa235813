-- `clashes::meet_fields` meets its contract.
use native.Mathlib.Omega.{arith}
use Rattle.references.proofs.RowKinds.{places-fit}
use Rattle.clashes.proofs.SeenLaws.{noted-fields, noted-no-fields}
use Rattle.clashes.proofs.meet_fields.Goals as goal

pub meet_all-requires : goal.meet_all-requires
meet_all-requires c =
    (c.requires.2, c.fields_number-k.ensures.upper_bound, omega (arith, places-fit c.args.rows.now c.requires.0 c.args.u c.requires.1, c.first_member.ensures, c.member_total.ensures))

pub returns-then-kind_number-eq-STRUCT : goal.returns-then-kind_number-eq-STRUCT
returns-then-kind_number-eq-STRUCT c =
    noted-fields c.args.text.now c.args.rows.now c.args.u c.requires.1 c.kind_number.ensures _ c.if-kind_number-eq-STRUCT.true _ c.fields_number-k.ensures.value c.first_member.ensures c.member_total.ensures c.meet_all.ensures

pub returns-else-kind_number-eq-STRUCT : goal.returns-else-kind_number-eq-STRUCT
returns-else-kind_number-eq-STRUCT c =
    noted-no-fields c.args.text.now c.args.rows.now c.args.u c.requires.1 c.kind_number.ensures _ c.if-kind_number-eq-STRUCT.false
