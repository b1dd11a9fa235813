-- `text::scan::run_met` meets its contract: what the test answers is p of the byte, and some byte fails it.
use mathlib.Core.Path.{refl, sym, ◌∙◌}
use native.Mathlib.Omega.{arith}
use Rattle.text.proofs.RunLaws.{on-within, on-next, on-stop}
use Rattle.text.proofs.scan.run_met.Goals as goal

pub loop-i-init : goal.loop-i-init
loop-i-init g c = λ p tells end h. refl

pub bounds-s-i : goal.bounds-s-i
bounds-s-i g c = let r = c.requires.ended in on-within r.0 _ _ _ (c.loop-i.invariant r.0 r.1) r.2

pub overflow_add-i : goal.overflow_add-i
overflow_add-i g c = let r = c.requires.ended in omega (arith, on-within r.0 _ _ _ (c.loop-i.invariant r.0 r.1) r.2)

pub loop-i-smaller : goal.loop-i-smaller
loop-i-smaller g c = let r = c.requires.ended in omega (arith, on-within r.0 _ _ _ (c.loop-i.invariant r.0 r.1) r.2)

pub loop-i-preserved : goal.loop-i-preserved
loop-i-preserved g c p tells =
    let b = tells _ _ (omega (arith, (c.type_inv.s c.loop-i.i).fits, c.from.ensures)) c.passes.ensures in
    on-next p _ _ _ (c.loop-i.invariant p tells) c.from.ensures (sym b ∙ c.loop-i-test.true)

pub returns : goal.returns
returns g c p tells =
    let b = tells _ _ (omega (arith, (c.type_inv.s c.loop-i.i).fits, c.from.ensures)) c.passes.ensures in
    on-stop p _ _ _ (c.loop-i.invariant p tells) c.from.ensures (sym b ∙ c.loop-i-test.false)
