use mathlib.Core.Path.{refl}
use Rattle.references.proofs.Referring.{member-had}
use Rattle.references.proofs.refs.member_within.Goals as goal

pub returns-then-has_type : goal.returns-then-has_type
returns-then-has_type c text =
    member-had text c.args.rows.now c.args.m c.member_type.ensures (c.has_type.ensures text) c.member_package.ensures (c.has_package.ensures text) (rw c.if-has_type.true)

pub returns-else-has_type : goal.returns-else-has_type
returns-else-has_type c text =
    member-had text c.args.rows.now c.args.m c.member_type.ensures (c.has_type.ensures text) refl refl (rw c.if-has_type.false)
