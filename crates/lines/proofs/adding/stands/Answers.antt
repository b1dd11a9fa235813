-- `lines::adding::stands` meets its contract.
use mathlib.Core.Path.{◌∙◌}
use borrow.Author.Tests.{eq-eqb}
use Rattle.lines.proofs.AboveLaws.{stands-field, stands-named, stands-iface}
use Rattle.lines.proofs.adding.stands.Goals as goal

pub returns-then-form-lt2 : goal.returns-then-form-lt2
returns-then-form-lt2 c = stands-field _ _ c.if-form-lt2.true

pub returns-then-kind-eq-NAMED : goal.returns-then-kind-eq-NAMED
returns-then-kind-eq-NAMED c = eq-eqb c.args.kind 10 c.if-kind-eq-NAMED.true ∙ stands-named _ _ c.if-form-lt2.false c.if-kind-eq-NAMED.true

pub returns-else-kind-eq-NAMED : goal.returns-else-kind-eq-NAMED
returns-else-kind-eq-NAMED c = stands-iface _ _ c.if-form-lt2.false c.if-kind-eq-NAMED.false
