-- `flag_at` meets its contract.
use mathlib.Core.Path.{◌∙◌}
use borrow.Author.Tests.{eq-eqb, ne_eqb}
use Rattle.levels.proofs.HitLaws.{type-read, flag-read}
use Rattle.method_set.proofs.KeepLaws.{flag-removed, flag-under}
use Rattle.method_set.proofs.flag_at.Goals as goal

pub returns-then-e-eq1 : goal.returns-then-e-eq1
returns-then-e-eq1 c =
    let yes = eq-eqb _ _ c.if-e-eq1.true in yes ∙ flag-removed _ _ _ (flag-read _ _ _ c.record_at-e.ensures) yes

pub returns-else-e-eq1 : goal.returns-else-e-eq1
returns-else-e-eq1 c =
    flag-under _ _ _ (flag-read _ _ _ c.record_at-e.ensures) (ne_eqb _ _ c.if-e-eq1.false) (type-read _ _ _ c.record_at-e.ensures) c.iface_under.ensures
