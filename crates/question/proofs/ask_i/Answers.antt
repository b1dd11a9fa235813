-- `question::ask_i` meets its contract: two types.
use mathlib.Core.Path.{◌∙◌}
use Rattle.question.proofs.Steps.{then-on, then-out, value_none, value-is}
use Rattle.question.proofs.RefLaws.{ref-on, ref-out}
use Rattle.question.proofs.FormLaws.{reads_at, wrong-reads, i-reads, i-form}
use Rattle.question.proofs.ask_i.Goals as goal

pub returns-in_err-x : goal.returns-in_err-x
returns-in_err-x c =
    rw c.from_residual.ensures (wrong-reads _ (i-form _ ∙ value_none (then-out _ _ _ (ref-out _ _ _ c.small.ensures c.in_err-x.was))))

pub returns-in_err-y : goal.returns-in_err-y
returns-in_err-y c =
    rw c.from_residual-in_err-y.ensures (wrong-reads _ (i-form _ ∙ value_none (then-on _ _ _ (ref-on _ _ _ c.small.ensures c.in_ok-x.was) ∙ then-out _ _ _ (ref-out _ _ _ c.small-2.ensures c.in_err-y.was))))

pub returns : goal.returns
returns c =
    reads_at (i-form _ ∙ value-is (then-on _ _ _ (ref-on _ _ _ c.small.ensures c.in_ok-x.was) ∙ then-on _ _ _ (ref-on _ _ _ c.small-2.ensures c.in_ok-y.was))) (c.ended.ensures _ _ (i-reads _ _ _))
