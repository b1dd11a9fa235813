use native.Mathlib.Omega.{arith}
use Rattle.print.proofs.DecimalLaws.{decimal-any, decimal-one, decimal-more}
use Rattle.print.proofs.decimal_length.Goals as goal

pub overflow_add-count : goal.overflow_add-count
overflow_add-count c = omega (arith, c.loop-rest.invariant.0, decimal-any c.args.n)

pub loop-rest-preserved : goal.loop-rest-preserved
loop-rest-preserved c =
    (omega (arith, c.loop-rest.invariant.0, decimal-more c.loop-rest.rest c.loop-rest.invariant.1 c.loop-rest-test.true), omega arith)

pub returns : goal.returns
returns c = omega (arith, c.loop-rest.invariant.0, decimal-one c.loop-rest.rest c.loop-rest-test.false)
