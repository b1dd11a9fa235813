-- `text::scan::met_in_eight` meets its contract. The invariant: `met` says it of the first k bytes. The measure is what is left of the eight.
use native.Mathlib.Omega.{arith}
use Rattle.text.proofs.RunLaws.{met-none, met_next, met_all}
use mathlib.Core.Path.{refl}
use Rattle.text.proofs.scan.met_in_eight.Goals as goal

pub loop-k-init : goal.loop-k-init
loop-k-init c = (met-none _ _ _, omega arith)

pub bounds-s-i : goal.bounds-s-i
bounds-s-i c = omega (arith, c.requires, c.loop-k-test.true)

pub loop-k-preserved : goal.loop-k-preserved
loop-k-preserved c =
    (met_next _ _ _ _ c.loop-k.invariant.0 c.from.ensures refl refl, omega (arith, c.loop-k-test.true))

pub returns : goal.returns
returns c = met_all _ _ _ _ _ c.loop-k.invariant.1 c.loop-k-test.false c.loop-k.invariant.0
