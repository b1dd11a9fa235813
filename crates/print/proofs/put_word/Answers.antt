use native.Mathlib.Omega.{arith}
use mathlib.Core.Path.{sym, ◌∙◌}
use lib.ListN.{length-set}
use Rattle.print.proofs.WrittenLaws.{written_on, written-end}
use Rattle.print.proofs.put_word.Goals as goal

pub loop-j-preserved : goal.loop-j-preserved
loop-j-preserved c =
    (c.loop-j.invariant.0 ∙ written_on _ _ c.args.w.now _ c.loop-j-test.true, simp length-set c.loop-j.invariant.1)

pub returns : goal.returns
returns c =
    record { past = omega arith; text = sym (c.loop-j.invariant.0 ∙ written-end _ _ c.args.w.now _ c.loop-j-test.false) }
