-- `text::compare::same` meets its contract.
use mathlib.Core.Path.{sym, ◌∙◌}
use borrow.Author.Tests.{ne_eqb}
use Prim.Native.Nat.{◌-◌}
use lib.ListN.{length}
use Rattle.text.proofs.CompareLaws.{same_length, same_not}
use Rattle.text.proofs.compare.same.Goals as goal

pub returns-else-a-n : goal.returns-else-a-n
returns-else-a-n c =
    ne_eqb _ _ c.if-a-n.false ∙ sym (same_not c.args.a.now c.args.b.now (length c.args.a.now - 1) c.if-a-n.false)

pub returns-else-n-b : goal.returns-else-n-b
returns-else-n-b c = ne_eqb _ _ c.if-n-b.false ∙ sym (same_length c.args.a.now c.args.b.now c.if-n-b.false)
