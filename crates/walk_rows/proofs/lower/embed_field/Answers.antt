-- `embed_field`.
use Rattle.std.proofs.Common.{rules}
use mathlib.Core.Path.{◌≡◌, refl, ap, ◌∙◌}
use mathlib.Core.Bool.{◌||◌}
use lib.Dec.{eqb}
use Rattle.objects.specs.Types.{pointer_read}
use Rattle.walk_rows.proofs.RecordLaws.{flag-word}
use Rattle.walk_rows.proofs.LowerLaws.{enters_none, enters-row, enters-as, field_plain, field_record, field_fits, field-target, field_row}
use Rattle.walk_rows.proofs.lower.embed_field.Goals as goal
use Rattle.walk_rows.proofs.lower.embed_field.Goals.{then-up, else-up}

pub returns-then-not-is_embedded : goal.returns-then-not-is_embedded
returns-then-not-is_embedded c =
    enters-as _ _ (field_plain c.args.text.now c.args.rows.now c.args.up c.args.m c.args.place c.is_embedded.ensures c.if-not-is_embedded.true) (enters_none c.requires.walked.0)

pub enter-requires : goal.enter-requires
enter-requires c =
    let target = field-target c.args.text.now c.args.rows.now c.args.up c.args.m c.args.place c.requires.library c.requires.walked.2 c.member_type-t.ensures c.bare-target.ensures in
    (c.requires.walked.0.rowed, field_fits c.args.text.now c.args.rows.now c.args.up c.args.m c.args.place c.requires.walked.0 c.requires.walked.1 c.bare-target.result _ target)

pub returns : goal.returns
returns c =
    let target = field-target c.args.text.now c.args.rows.now c.args.up c.args.m c.args.place c.requires.library c.requires.walked.2 c.member_type-t.ensures c.bare-target.ensures in
    let removed : c.if-up.from ≡ c.args.up.flag || pointer_read c.args.rows.now c.member_type-t.result = elim c.if-up.branch [ then-up w ↦ rw (w.from-is, w.if-up.true) | else-up w ↦ rw (w.from-is, w.if-up.false) w.pointer_at.ensures ] in
    let said : eqb c.from.result 1 ≡ c.if-up.from = ap (λ k. eqb k 1) c.from.ensures ∙ flag-word c.if-up.from in
    let below = field_row c.args.text.now c.args.rows.now c.args.up c.args.m c.args.place c.requires.library c.requires.walked.2 c.member_type-t.ensures c.is_embedded.ensures c.if-not-is_embedded.false c.bare-target.ensures refl removed c.from.result said in
    enters-as _ _ below (enters-row c.requires.walked.0 (field_record c.args.text.now c.args.rows.now c.args.up c.args.m c.args.place c.bare-target.result c.from.result) target (search rules) c.enter.ensures)
