-- `question::ask_m` meets its contract: one type.
use mathlib.Core.Path.{◌∙◌}
use Rattle.question.proofs.Steps.{then-on, then-out, value_none, value-is}
use Rattle.question.proofs.RefLaws.{ref-on, ref-out}
use Rattle.question.proofs.FormLaws.{reads_at, wrong-reads, m-reads, m-form}
use Rattle.question.proofs.ask_m.Goals as goal

pub returns-in_err-t : goal.returns-in_err-t
returns-in_err-t c =
    rw c.from_residual.ensures (wrong-reads _ (m-form _ ∙ value_none (then-out _ _ _ (ref-out _ _ _ c.small.ensures c.in_err-t.was))))

pub returns : goal.returns
returns c =
    reads_at (m-form _ ∙ value-is (then-on _ _ _ (ref-on _ _ _ c.small.ensures c.in_ok-t.was))) (c.ended.ensures _ _ (m-reads _ _))
