-- `packages::unordered` meets its contract: up to package p the paths ascend, and what 14 finds is what it finds from p on.
use mathlib.Core.Path.{sym, ◌∙◌}
use native.Mathlib.Omega.{arith}
use Rattle.rules.proofs.PathLaws.{paths-start}
use Rattle.packages.proofs.PathRows.{from_on, from-stop, from_end}
use Rattle.packages.proofs.unordered.Goals as goal

pub loop-p-init : goal.loop-p-init
loop-p-init c = paths-start _

pub returns-then-not-ascends : goal.returns-then-not-ascends
returns-then-not-ascends c =
    sym (c.loop-p.invariant ∙ from-stop _ _ c.package_count-p-end.ensures _ (omega arith) c.loop-p-test.true c.ascends.ensures c.if-not-ascends.true)

pub loop-p-preserved : goal.loop-p-preserved
loop-p-preserved c =
    c.loop-p.invariant ∙ from_on _ _ c.package_count-p-end.ensures _ (omega arith) c.loop-p-test.true c.ascends.ensures c.if-not-ascends.false

pub returns : goal.returns
returns c =
    sym (c.loop-p.invariant ∙ from_end _ _ c.package_count-p-end.ensures _ c.loop-p-test.false)
