use native.Mathlib.Omega.{arith}
use Rattle.references.proofs.RowKinds.{places-fit}
use Rattle.references.proofs.Allowing.{ends-empty, ends_last}
use Rattle.references.proofs.allowed.ends_in_slice.Goals as goal

pub overflow_add-first : goal.overflow_add-first
overflow_add-first c =
    omega (arith, places-fit c.args.rows.now (c.requires.0) c.args.p (c.requires.1), c.first_member-first.ensures, c.member_total-n.ensures)

pub returns-then-n-ne0 : goal.returns-then-n-ne0
returns-then-n-ne0 c text =
    ends_last text c.args.rows.now c.args.p (c.requires.1) (c.requires.2) c.member_total-n.ensures c.if-n-ne0.true c.first_member-first.ensures c.element.ensures (c.kind_in.ensures text)

pub returns-else-n-ne0 : goal.returns-else-n-ne0
returns-else-n-ne0 c text =
    rw c.if-n-ne0.false (ends-empty text c.args.rows.now c.args.p (c.requires.1) (c.requires.2) c.member_total-n.ensures c.if-n-ne0.false)
