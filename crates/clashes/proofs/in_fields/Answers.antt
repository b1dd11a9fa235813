-- `clashes::in_fields` meets its contract.
use mathlib.Core.Path.{◌∙◌}
use borrow.Author.Tests.{ne_eqb}
use native.Mathlib.Omega.{arith}
use Rattle.objects.specs.Rows.{member_at, table_of}
use Rattle.rules.specs.Members.{same_member}
use Rattle.references.proofs.RowKinds.{places-fit}
use Rattle.clashes.proofs.ClashLaws.{fields_out, fields-none, fields-some, fields-packaged}
use Rattle.clashes.proofs.in_fields.Goals as goal

pub returns-then-type_count-u : goal.returns-then-type_count-u
returns-then-type_count-u c =
    fields_out c.args.text.now c.args.rows.now c.args.u (same_member (table_of c.args.text.now c.args.rows.now) (member_at c.args.text.now c.args.rows.now c.args.m)) c.type_count.ensures c.if-type_count-u.true

pub any_same-requires : goal.any_same-requires
any_same-requires c = (
  c.requires.2,
  fields-packaged c.args.text.now c.args.rows.now c.args.u (same_member (table_of c.args.text.now c.args.rows.now) (member_at c.args.text.now c.args.rows.now c.args.m)) c.type_count.ensures c.if-type_count-u.false c.kind_number.ensures c.requires.1 c.if-kind_number-eq-STRUCT.true c.first_member.ensures c.member_total.ensures,
  omega (arith, places-fit c.args.rows.now c.requires.0 c.args.u (rw c.type_count.ensures at c.if-type_count-u.false), c.first_member.ensures, c.member_total.ensures),
  c.requires.1.ordered,
)

pub returns-then-kind_number-eq-STRUCT : goal.returns-then-kind_number-eq-STRUCT
returns-then-kind_number-eq-STRUCT c =
    c.any_same.ensures ∙ fields-some c.args.text.now c.args.rows.now c.args.u (same_member (table_of c.args.text.now c.args.rows.now) (member_at c.args.text.now c.args.rows.now c.args.m)) c.type_count.ensures c.if-type_count-u.false c.kind_number.ensures c.if-kind_number-eq-STRUCT.true c.first_member.ensures c.member_total.ensures

pub returns-else-kind_number-eq-STRUCT : goal.returns-else-kind_number-eq-STRUCT
returns-else-kind_number-eq-STRUCT c =
    ne_eqb c.kind_number.result 8 c.if-kind_number-eq-STRUCT.false ∙ fields-none c.args.text.now c.args.rows.now c.args.u (same_member (table_of c.args.text.now c.args.rows.now) (member_at c.args.text.now c.args.rows.now c.args.m)) c.type_count.ensures c.if-type_count-u.false c.kind_number.ensures c.if-kind_number-eq-STRUCT.false
