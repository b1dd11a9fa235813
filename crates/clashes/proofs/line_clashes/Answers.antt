-- `clashes::line_clashes` meets its contract.
use mathlib.Core.Path.{◌≡◌, ◌∙◌}
use mathlib.Core.Bool.{◌||◌}
use native.Mathlib.Omega.{arith}
use Rattle.references.proofs.RowKinds.{lines_fit}
use Rattle.clashes.proofs.SeenLaws.{looked-iface, looked-compared, looked-new}
use Rattle.clashes.proofs.line_clashes.Goals as goal
use Rattle.clashes.proofs.line_clashes.Goals.{then-own, else-own}

pub returns-then-kind_number-eq-IFACE : goal.returns-then-kind_number-eq-IFACE
returns-then-kind_number-eq-IFACE c =
    looked-iface c.args.text.now c.args.rows.now c.args.t c.requires.2 c.args.i c.requires.3 c.args.marks.now c.requires.6 c.kind_number.ensures c.if-kind_number-eq-IFACE.true c.member_clashes.ensures

pub overflow_add-first_member : goal.overflow_add-first_member
overflow_add-first_member c =
    omega (arith, lines_fit c.args.rows.now c.requires.0 c.args.t c.requires.2, c.first_member.ensures, c.requires.3)

pub field_marked-field-requires : goal.field_marked-field-requires
field_marked-field-requires c = c.name_hash-h.ensures.upper_bound

pub place-p-requires : goal.place-p-requires
place-p-requires c = (omega (arith, c.requires.0.types, c.requires.2), c.name_hash-h.ensures.upper_bound)

pub meet-own-requires : goal.meet-own-requires
meet-own-requires c = (c.requires.5, c.place-p.ensures.upper_bound)

pub returns-then-known : goal.returns-then-known
returns-then-known c =
    looked-compared c.args.text.now c.args.rows.now c.args.t c.requires.2 c.args.i c.requires.3 c.args.marks.now c.requires.6 c.first_member.ensures c.name_hash-h.ensures.value c.place-p.ensures.value _ c.meet-own.ensures c.member_clashes-then-known.ensures

pub returns-else-known : goal.returns-else-known
returns-else-known c =
    let met : c.if-own.known ≡ c.meet-own.result || c.field_marked-field.result =
    elim c.if-own.branch [ then-own w ↦ w.known-is ∙ rw w.if-own.true | else-own w ↦ w.known-is ∙ rw w.if-own.false ] in
    rw c.if-known.false (looked-new c.args.text.now c.args.rows.now c.args.t c.requires.2 c.args.i c.requires.3 c.args.marks.now c.requires.6 c.first_member.ensures c.name_hash-h.ensures.value c.place-p.ensures.value _ c.meet-own.ensures c.kind_number.ensures c.if-kind_number-eq-IFACE.false c.field_marked-field.ensures met c.if-known.false)
