-- `lines::adding::add_line` meets its contract.
use mathlib.Core.Path.{refl, ap, ◌∙◌}
use Rattle.std.specs.Prelude.{Some}
use mathlib.Core.Option.{none}
use Rattle.lines.proofs.TupleLaws.{grown-form, type-space, tuple-space, member-space, member-numbered}
use Rattle.lines.proofs.AddLaws.{refusing}
use Rattle.text.specs.Cursors.{fields_left}
use Rattle.line_forms.specs.Forms.{form_meant}
use Rattle.objects.specs.declared.refusals.Reason.{Reason}
use Rattle.lines.proofs.adding.add_line.Goals as goal

pub add_type-requires : goal.add_type-requires
add_type-requires c =
    (c.requires.1, type-space c.args.s.now c.args.rows.now (fields_left c.args.s.now c.args.c) _ c.requires.1 c.requires.0 c.requires.2 c.requires.3 c.parse.ensures.result_value (c.in-Some-Type.is ∙ ap Some c.in-Some-Type.field-0-is))

pub add_tuple-requires : goal.add_tuple-requires
add_tuple-requires c =
    let space = tuple-space c.args.s.now c.args.rows.now (fields_left c.args.s.now c.args.c) _ c.requires.1 c.requires.0 c.requires.2 c.requires.3 c.parse.ensures.result_bound (c.in-Some-Tuple.is ∙ ap Some c.in-Some-Tuple.field-0-is) in
    (c.requires.1, space.0, space.1, space.2)

pub add_member-requires : goal.add_member-requires
add_member-requires c =
    let fs = fields_left c.args.s.now c.args.c in
    (c.requires.1, member-space c.args.s.now c.args.rows.now fs _ c.requires.1 c.requires.0 c.requires.2 c.requires.3 c.parse.ensures.result_value (c.in-Some-Member.is ∙ ap Some c.in-Some-Member.field-0-is), member-numbered c.args.s.now fs _ c.parse.ensures.result_value (c.in-Some-Member.is ∙ ap Some c.in-Some-Member.field-0-is))

pub returns-in-Some-Package : goal.returns-in-Some-Package
unfolding form_meant
returns-in-Some-Package c = grown-form _ _ _ _ c.parse.ensures.result_value (c.in-Some-Package.is ∙ ap Some c.in-Some-Package.field-0-is) (c.add_package.ensures c.args.s.now)

pub returns-in-Some-Type : goal.returns-in-Some-Type
unfolding form_meant
returns-in-Some-Type c = grown-form _ _ _ _ c.parse.ensures.result_value (c.in-Some-Type.is ∙ ap Some c.in-Some-Type.field-0-is) (c.add_type.ensures c.args.s.now)

pub returns-in-Some-Tuple : goal.returns-in-Some-Tuple
unfolding form_meant
returns-in-Some-Tuple c = grown-form _ _ _ _ c.parse.ensures.result_value (c.in-Some-Tuple.is ∙ ap Some c.in-Some-Tuple.field-0-is) c.add_tuple.ensures

pub returns-in-Some-Member : goal.returns-in-Some-Member
unfolding form_meant
returns-in-Some-Member c = grown-form _ _ _ _ c.parse.ensures.result_value (c.in-Some-Member.is ∙ ap Some c.in-Some-Member.field-0-is) (c.add_member.ensures c.args.s.now)

pub returns-in-None : goal.returns-in-None
unfolding form_meant
returns-in-None c =
    grown-form _ _ _ _ c.parse.ensures.result_value c.in-None.is (refusing _ _ _ none Reason.Form c.requires.1 refl)
