-- `clashes::falls` meets its contract.
use mathlib.Core.Path.{◌≡◌, ◌∙◌}
use mathlib.Core.Bool.{false, not}
use Prim.Native.Nat.{ℕ, ◌+◌}
use lib.Dec.{eqb}
use native.Mathlib.Omega.{arith}
use Rattle.objects.specs.Table.{obj_key}
use Rattle.objects.specs.Rows.{member_at}
use Rattle.clashes.proofs.MemberRuns.{falls-first, falls-next}
use Rattle.clashes.proofs.falls.Goals as goal

not-zero : {n : ℕ} → n ≡ 0 → not (eqb n 0) ≡ false
not-zero e = rw e

pub overflow_add-first : goal.overflow_add-first
overflow_add-first c = omega (arith, c.requires.1)

pub overflow_add-first-then-n-ne0 : goal.overflow_add-first-then-n-ne0
overflow_add-first-then-n-ne0 c = omega (arith, c.requires.1)

pub below_id-requires : goal.below_id-requires
below_id-requires c = (c.requires.0 _ (omega arith), c.requires.0 _ (omega arith))

pub returns-else-n-ne0 : goal.returns-else-n-ne0
returns-else-n-ne0 c =
    not-zero c.if-n-ne0.false ∙ falls-first c.args.text.now c.args.rows.now c.args.first (member_at c.args.text.now c.args.rows.now (obj_key (c.args.first + c.args.n))) c.if-n-ne0.false

pub returns-then-n-ne0 : goal.returns-then-n-ne0
returns-then-n-ne0 c =
    falls-next c.args.text.now c.args.rows.now c.args.first (member_at c.args.text.now c.args.rows.now (obj_key (c.args.first + c.args.n))) c.args.n c.if-n-ne0.true c.below_id.ensures
