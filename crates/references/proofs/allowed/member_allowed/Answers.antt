use mathlib.Core.Path.{refl, ◌∙◌}
use borrow.Author.Tests.{ne_eqb}
use Rattle.references.proofs.Allowing.{line-method, line-field, by-first, by-second, by-none}
use Rattle.references.proofs.allowed.member_allowed.Goals as goal

pub returns-then-kind_in-eq-FUNC : goal.returns-then-kind_in-eq-FUNC
returns-then-kind_in-eq-FUNC c text =
    line-method text c.args.rows.now c.args.t c.args.m c.member_type-e.ensures c.is_method.ensures c.if-is_method.true (c.kind_in.ensures text) c.has_ptr.ensures (c.may_have.ensures text) (rw c.if-kind_in-eq-FUNC.true)

pub returns-else-kind_in-eq-FUNC : goal.returns-else-kind_in-eq-FUNC
returns-else-kind_in-eq-FUNC c text =
    line-method text c.args.rows.now c.args.t c.args.m c.member_type-e.ensures c.is_method.ensures c.if-is_method.true (c.kind_in.ensures text) refl refl (rw (ne_eqb c.kind_in.result 7 c.if-kind_in-eq-FUNC.false))

pub returns-then-not-is_embedded : goal.returns-then-not-is_embedded
returns-then-not-is_embedded c text =
    by-first _ c.if-may_refer.true c.if-not-is_embedded.true ∙ line-field text c.args.rows.now c.args.t c.args.m c.member_type-e.ensures c.is_method.ensures c.if-is_method.false c.is_embedded.ensures (c.may_refer.ensures text)

pub returns-else-not-is_embedded : goal.returns-else-not-is_embedded
returns-else-not-is_embedded c text =
    c.may_embed.ensures text ∙ by-second _ c.if-may_refer.true c.if-not-is_embedded.false ∙ line-field text c.args.rows.now c.args.t c.args.m c.member_type-e.ensures c.is_method.ensures c.if-is_method.false c.is_embedded.ensures (c.may_refer.ensures text)

pub returns-else-may_refer : goal.returns-else-may_refer
returns-else-may_refer c text =
    by-none _ c.if-may_refer.false ∙ line-field text c.args.rows.now c.args.t c.args.m c.member_type-e.ensures c.is_method.ensures c.if-is_method.false refl (c.may_refer.ensures text)
