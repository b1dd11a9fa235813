-- `clashes::marks::mark` meets its contract.
use native.Mathlib.Omega.{arith}
use Rattle.clashes.proofs.MarkLaws.{mark-adds}
use Rattle.clashes.proofs.marks.mark.Goals as goal

pub set_bit-requires : goal.set_bit-requires
set_bit-requires c = omega (arith, c.requires.0, c.high.ensures.upper_bound)

pub set_bit-requires-2 : goal.set_bit-requires-2
set_bit-requires-2 c = omega (arith, c.requires.0, c.low.ensures.upper_bound, c.set_bit.auto.marks)

pub returns : goal.returns
returns c =
    mark-adds _ _ _ c.args.p c.high.ensures.value c.low.ensures.value c.set_bit.ensures.0 c.set_bit.ensures.1 c.set_bit-2.ensures.0 c.set_bit-2.ensures.1
