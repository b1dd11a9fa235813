-- `call` meets its contract, for one question and for many.
use Rattle.std.proofs.Common.{arith, ◌∙◌, ◌-◌, length}
use lib.ListN.{length-take}
use Rattle.objects.specs.Bounds.{work_words}
use borrow.Rule.Slice.PartMut.{same_len_mid}
use Rattle.yifgrun.proofs.Signed.{back}
use Rattle.yifgrun.proofs.Asking.{few_words, enough-words, words-cleared, first-words}
use Rattle.yifgrun.proofs.+call.Goals as goal

pub returns-then-work-lt-WORK_WORDS : goal.returns-then-work-lt-WORK_WORDS
returns-then-work-lt-WORK_WORDS t c = few_words _ _ _ _ _ _ c.if-work-lt-WORK_WORDS.true (back _ c.refusal.type_inv ∙ c.refusal.ensures)

pub slice_bounds-call-end-then-work-gt-WORK_WORDS : goal.slice_bounds-call-end-then-work-gt-WORK_WORDS
slice_bounds-call-end-then-work-gt-WORK_WORDS t c =
    let long = same_len_mid work_words (length c.args.work.now - work_words) c.args.work.now c.clear.new.marks c.clear.auto.marks in
    rw length-take (omega (arith, long, c.if-work-gt-WORK_WORDS.true))

pub call-requires : goal.call-requires
call-requires t c = (rw length-take (omega (arith, c.decreases)), tt)

pub returns-then-work-gt-WORK_WORDS : goal.returns-then-work-gt-WORK_WORDS
returns-then-work-gt-WORK_WORDS t c =
    first-words _ _ _ _ c.args.work.now _ c.if-work-gt-WORK_WORDS.true c.clear.ensures (back _ c.call.type_inv) c.call.ensures

pub decide-requires : goal.decide-requires
decide-requires t c = (words-cleared c.args.work.now c.if-work-lt-WORK_WORDS.false c.clear-2.auto.marks c.clear-2.ensures, omega (arith, c.if-table-le-SMALL_TEXT.true), omega arith)

pub number-requires : goal.number-requires
number-requires t c = c.decide.ensures.ends.holds (omega arith)

pub returns-then-table-le-SMALL_TEXT : goal.returns-then-table-le-SMALL_TEXT
returns-then-table-le-SMALL_TEXT t c =
    enough-words _ _ _ _ c.args.work.now _ c.if-work-lt-WORK_WORDS.false c.decide.ensures.ends
    (back _ c.number.type_inv ∙ c.number.ensures) c.clear-2.ensures c.decide.ensures.work_unchanged

pub decide-requires-then-table-le-MEDIAN_TEXT : goal.decide-requires-then-table-le-MEDIAN_TEXT
decide-requires-then-table-le-MEDIAN_TEXT t c = (words-cleared c.args.work.now c.if-work-lt-WORK_WORDS.false c.clear-2.auto.marks c.clear-2.ensures, omega (arith, c.if-table-le-MEDIAN_TEXT.true), omega arith)

pub number-requires-then-table-le-MEDIAN_TEXT : goal.number-requires-then-table-le-MEDIAN_TEXT
number-requires-then-table-le-MEDIAN_TEXT t c = c.decide-then-table-le-MEDIAN_TEXT.ensures.ends.holds (omega arith)

pub returns-then-table-le-MEDIAN_TEXT : goal.returns-then-table-le-MEDIAN_TEXT
returns-then-table-le-MEDIAN_TEXT t c =
    enough-words _ _ _ _ c.args.work.now _ c.if-work-lt-WORK_WORDS.false c.decide-then-table-le-MEDIAN_TEXT.ensures.ends
    (back _ c.number-then-table-le-MEDIAN_TEXT.type_inv ∙ c.number-then-table-le-MEDIAN_TEXT.ensures) c.clear-2.ensures c.decide-then-table-le-MEDIAN_TEXT.ensures.work_unchanged

pub decide-requires-then-table-le-MIDDLE_TEXT : goal.decide-requires-then-table-le-MIDDLE_TEXT
decide-requires-then-table-le-MIDDLE_TEXT t c = (words-cleared c.args.work.now c.if-work-lt-WORK_WORDS.false c.clear-2.auto.marks c.clear-2.ensures, omega (arith, c.if-table-le-MIDDLE_TEXT.true), omega arith)

pub number-requires-then-table-le-MIDDLE_TEXT : goal.number-requires-then-table-le-MIDDLE_TEXT
number-requires-then-table-le-MIDDLE_TEXT t c = c.decide-then-table-le-MIDDLE_TEXT.ensures.ends.holds (omega arith)

pub returns-then-table-le-MIDDLE_TEXT : goal.returns-then-table-le-MIDDLE_TEXT
returns-then-table-le-MIDDLE_TEXT t c =
    enough-words _ _ _ _ c.args.work.now _ c.if-work-lt-WORK_WORDS.false c.decide-then-table-le-MIDDLE_TEXT.ensures.ends
    (back _ c.number-then-table-le-MIDDLE_TEXT.type_inv ∙ c.number-then-table-le-MIDDLE_TEXT.ensures) c.clear-2.ensures c.decide-then-table-le-MIDDLE_TEXT.ensures.work_unchanged

pub decide-requires-then-table-le-LONG_TEXT : goal.decide-requires-then-table-le-LONG_TEXT
decide-requires-then-table-le-LONG_TEXT t c = (words-cleared c.args.work.now c.if-work-lt-WORK_WORDS.false c.clear-2.auto.marks c.clear-2.ensures, omega (arith, c.if-table-le-LONG_TEXT.true), omega arith)

pub number-requires-then-table-le-LONG_TEXT : goal.number-requires-then-table-le-LONG_TEXT
number-requires-then-table-le-LONG_TEXT t c = c.decide-then-table-le-LONG_TEXT.ensures.ends.holds (omega arith)

pub returns-then-table-le-LONG_TEXT : goal.returns-then-table-le-LONG_TEXT
returns-then-table-le-LONG_TEXT t c =
    enough-words _ _ _ _ c.args.work.now _ c.if-work-lt-WORK_WORDS.false c.decide-then-table-le-LONG_TEXT.ensures.ends
    (back _ c.number-then-table-le-LONG_TEXT.type_inv ∙ c.number-then-table-le-LONG_TEXT.ensures) c.clear-2.ensures c.decide-then-table-le-LONG_TEXT.ensures.work_unchanged

pub decide-requires-2 : goal.decide-requires-2
decide-requires-2 t c = (words-cleared c.args.work.now c.if-work-lt-WORK_WORDS.false c.clear-2.auto.marks c.clear-2.ensures, omega arith, omega arith)

pub number-requires-2 : goal.number-requires-2
number-requires-2 t c = c.decide-2.ensures.ends.holds (omega arith)

pub returns : goal.returns
returns t c =
    enough-words _ _ _ _ c.args.work.now _ c.if-work-lt-WORK_WORDS.false c.decide-2.ensures.ends
    (back _ c.number-2.type_inv ∙ c.number-2.ensures) c.clear-2.ensures c.decide-2.ensures.work_unchanged
