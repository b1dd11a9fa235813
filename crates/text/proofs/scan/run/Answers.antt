-- `text::scan::run` meets its contract: what the test answers is p of the byte.
use mathlib.Core.Path.{sym, ◌∙◌}
use native.Mathlib.Omega.{arith}
use Rattle.text.proofs.PartLaws.{stop-in}
use Rattle.text.proofs.RunLaws.{run-done, run-next, run-stop}
use Rattle.text.proofs.scan.run.Goals as goal

pub bounds-s-i : goal.bounds-s-i
bounds-s-i g c = (stop-in _ _ _ c.stop-stop.ensures c.loop-i-test.true).1

pub returns-then-not-passes : goal.returns-then-not-passes
returns-then-not-passes g c p tells =
    let b = tells _ _ (omega (arith, (c.type_inv.s c.loop-i.i).fits, c.from.ensures)) c.passes.ensures in
    sym (c.loop-i.invariant p tells ∙ run-stop p _ _ _ c.stop-stop.ensures c.loop-i-test.true c.from.ensures (sym b ∙ c.if-not-passes.true))

pub loop-i-preserved : goal.loop-i-preserved
loop-i-preserved g c p tells =
    let b = tells _ _ (omega (arith, (c.type_inv.s c.loop-i.i).fits, c.from.ensures)) c.passes.ensures in
    c.loop-i.invariant p tells ∙ run-next p _ _ _ c.stop-stop.ensures c.loop-i-test.true c.from.ensures (sym b ∙ c.if-not-passes.false)

pub returns : goal.returns
returns g c p tells = sym (c.loop-i.invariant p tells ∙ run-done p _ _ _ c.stop-stop.ensures c.loop-i-test.false)
