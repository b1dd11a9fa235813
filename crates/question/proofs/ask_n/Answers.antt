-- `question::ask_n` meets its contract: two types, and 0 or 1 for s.
use mathlib.Core.Path.{◌∙◌}
use Rattle.question.proofs.Steps.{then-on, then-out, value_none, value-is}
use Rattle.question.proofs.RefLaws.{ref-on, ref-out, flag-on, flag-out}
use Rattle.question.proofs.FormLaws.{reads_at, wrong-reads, n-reads, n-form}
use Rattle.question.proofs.ask_n.Goals as goal

pub returns-in_err-t : goal.returns-in_err-t
returns-in_err-t c =
    rw c.from_residual.ensures (wrong-reads _ (n-form _ ∙ value_none (then-out _ _ _ (ref-out _ _ _ c.small.ensures c.in_err-t.was))))

pub returns-in_err-i : goal.returns-in_err-i
returns-in_err-i c =
    rw c.from_residual-in_err-i.ensures (wrong-reads _ (n-form _ ∙ value_none (then-on _ _ _ (ref-on _ _ _ c.small.ensures c.in_ok-t.was) ∙ then-out _ _ _ (ref-out _ _ _ c.small-2.ensures c.in_err-i.was))))

pub returns-in_err-s : goal.returns-in_err-s
returns-in_err-s c =
    rw c.from_residual-in_err-s.ensures (wrong-reads _ (n-form _ ∙ value_none (then-on _ _ _ (ref-on _ _ _ c.small.ensures c.in_ok-t.was) ∙ then-on _ _ _ (ref-on _ _ _ c.small-2.ensures c.in_ok-i.was) ∙ then-out _ _ _ (flag-out _ _ _ c.small-3.ensures c.in_err-s.was))))

pub returns : goal.returns
returns c =
    reads_at (n-form _ ∙ value-is (then-on _ _ _ (ref-on _ _ _ c.small.ensures c.in_ok-t.was) ∙ then-on _ _ _ (ref-on _ _ _ c.small-2.ensures c.in_ok-i.was) ∙ then-on _ _ _ (flag-on _ _ _ c.small-3.ensures c.in_ok-s.was))) (c.ended.ensures _ _ (n-reads _ _ _ _))
