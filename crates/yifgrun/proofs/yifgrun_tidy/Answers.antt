-- `yifgrun_tidy` meets its contract.
use mathlib.Core.Path.{◌∙◌}
use native.Mathlib.Omega.{arith}
use Rattle.yifgrun.proofs.Signed.{back}
use Rattle.yifgrun.proofs.Asking.{few-tidied, enough-tidied}
use Rattle.yifgrun.proofs.yifgrun_tidy.Goals as goal

pub returns-then-work-lt-WORK_WORDS : goal.returns-then-work-lt-WORK_WORDS
returns-then-work-lt-WORK_WORDS c = few-tidied _ _ _ _ (c.if-work-lt-WORK_WORDS.true) (back _ c.refusal.type_inv ∙ c.refusal.ensures)

pub number-requires : goal.number-requires
number-requires c = c.tidy_with.ensures.holds (omega arith)

pub returns-then-table-le-LONG_TEXT : goal.returns-then-table-le-LONG_TEXT
returns-then-table-le-LONG_TEXT c =
    let told = back _ c.number.type_inv ∙ c.number.ensures in
    enough-tidied _ _ c.args.work.now _ c.if-work-lt-WORK_WORDS.false c.tidy_with.ensures told c.clear.ensures

pub number-requires-2 : goal.number-requires-2
number-requires-2 c = c.tidy_with-2.ensures.holds (omega arith)

pub returns : goal.returns
returns c =
    let told = back _ c.number-2.type_inv ∙ c.number-2.ensures in
    enough-tidied _ _ c.args.work.now _ c.if-work-lt-WORK_WORDS.false c.tidy_with-2.ensures told c.clear.ensures
