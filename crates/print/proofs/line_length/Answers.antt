use native.Mathlib.Omega.{arith}
use lib.ListN.{take, get_or}
use Rattle.print.proofs.DecimalLaws.{decimal-any}
use Rattle.print.proofs.LineLaws.{line-length, line-short, next-length, last-length}
use Rattle.print.proofs.line_length.Goals as goal

pub loop-x-init : goal.loop-x-init
loop-x-init c = omega (arith, line-length c.args.word.now (take c.args.n c.args.ns.now))

pub overflow_add-total-in-loop-x : goal.overflow_add-total-in-loop-x
overflow_add-total-in-loop-x c =
    omega (arith, c.decimal_length-digits.ensures, decimal-any (get_or (take c.args.n c.args.ns.now) c.loop-x.x-index 0))

pub overflow_add-total-in-loop-x-2 : goal.overflow_add-total-in-loop-x-2
overflow_add-total-in-loop-x-2 c =
    omega (arith, c.loop-x.invariant, c.decimal_length-digits.ensures, next-length (take c.args.n c.args.ns.now) c.loop-x.x-index c.loop-x-test.true, line-short c.args.word.now c.args.ns.now c.args.n (omega arith) (omega arith))

pub loop-x-preserved : goal.loop-x-preserved
loop-x-preserved c =
    omega (arith, c.loop-x.invariant, c.decimal_length-digits.ensures, next-length (take c.args.n c.args.ns.now) c.loop-x.x-index c.loop-x-test.true)

pub returns : goal.returns
returns c = omega (arith, c.loop-x.invariant, last-length (take c.args.n c.args.ns.now) c.loop-x.x-index c.loop-x-test.false)
