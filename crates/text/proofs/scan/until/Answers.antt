-- `text::scan::until` meets its contract. The invariant: the run from the start ends where the run from `i` ends, and `i` is not past `stop`. The measure is
-- what is left up to `stop`.
use mathlib.Core.Path.{refl, sym, ◌∙◌}
use native.Mathlib.Omega.{arith}
use Rattle.text.proofs.RunLaws.{run-done, stop-short, met-before, met-past}
use Rattle.std.proofs.Common.{rules}
use Rattle.text.specs.Runs.{other}
use Rattle.text.proofs.scan.until.Goals as goal

pub returns-then-stop-at : goal.returns-then-stop-at
returns-then-stop-at c = sym (run-done _ _ _ _ c.stop-stop.ensures c.if-stop-at.true)

pub loop-i-init : goal.loop-i-init
loop-i-init c = (refl, omega (arith, c.if-stop-at.false))

pub met_in_eight-requires : goal.met_in_eight-requires
met_in_eight-requires c =
    omega (arith, stop-short c.args.s.now c.args.end c.stop-stop.ensures, c.loop-i.invariant.1, c.loop-i-test.true)

pub run_met-requires : goal.run_met-requires
unfolding other
run_met-requires c =
    record {
      callable = search rules;
      ended = (other c.args.sep, search rules, (c.args.end, met-before _ _ _ c.met_in_eight.ensures _ c.stop-stop.ensures c.loop-i.invariant.1 c.loop-i-test.true c.if-met_in_eight.true));
    }

pub returns-then-met_in_eight : goal.returns-then-met_in_eight
unfolding other
returns-then-met_in_eight c =
    c.run_met.ensures (other c.args.sep) (search rules) _ (met-before _ _ _ c.met_in_eight.ensures _ c.stop-stop.ensures c.loop-i.invariant.1 c.loop-i-test.true c.if-met_in_eight.true) ∙ sym c.loop-i.invariant.0

pub loop-i-smaller : goal.loop-i-smaller
loop-i-smaller c = omega (arith, c.loop-i-test.true)

pub loop-i-preserved : goal.loop-i-preserved
loop-i-preserved c =
    (c.loop-i.invariant.0 ∙ met-past _ _ _ c.met_in_eight.ensures _ c.stop-stop.ensures c.loop-i.invariant.1 c.loop-i-test.true c.if-met_in_eight.false, omega (arith, c.loop-i.invariant.1, c.loop-i-test.true))

pub returns : goal.returns
unfolding other
returns c = c.run.ensures (other c.args.sep) (search rules) ∙ sym c.loop-i.invariant.0
