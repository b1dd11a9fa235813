-- `question::ask_c` meets its contract: one type.
use mathlib.Core.Path.{◌∙◌}
use Rattle.question.proofs.Steps.{then-on, then-out, value_none, value-is}
use Rattle.question.proofs.RefLaws.{ref-on, ref-out}
use Rattle.question.proofs.FormLaws.{reads_at, wrong-reads, c-reads, c-form}
use Rattle.question.proofs.ask_c.Goals as goal

pub returns-in_err-t : goal.returns-in_err-t
returns-in_err-t c =
    rw c.from_residual.ensures (wrong-reads _ (c-form _ ∙ value_none (then-out _ _ _ (ref-out _ _ _ c.small.ensures c.in_err-t.was))))

pub returns : goal.returns
returns c =
    reads_at (c-form _ ∙ value-is (then-on _ _ _ (ref-on _ _ _ c.small.ensures c.in_ok-t.was))) (c.ended.ensures _ _ (c-reads _ _))
