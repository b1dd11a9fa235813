-- `fits` meets its contract and ends: what is spent so far and what is still due are all.
use mathlib.Core.Path.{refl, sym, ap, ◌∙◌}
use Prim.Native.Nat.{◌+◌}
use native.Mathlib.Omega.{arith}
use lib.ListN.{length}
use borrow.Author.Tests.{le-leb, lt-leb}
use Rattle.objects.specs.Lists.{flat}
use Rattle.objects.specs.Rows.{table_of}
use Rattle.text.specs.Cursors.{part}
use Rattle.rules.specs.AskedAll.{question_lines, reply_bytes}
use Rattle.replies.proofs.Filling.{due_all, due-none, due-next, inside}
use Rattle.replies.proofs.all.fits.Goals as goal

pub loop-end-init : goal.loop-end-init
loop-end-init c =
    (refl, refl, refl, refl, c.requires.mark_words_in_bounds.1, omega arith, ap (λ n. n + c.args.room) (sym (due_all (table_of c.args.text.now c.args.rows.now) c.args.questions.now)))

pub next_question-requires : goal.next_question-requires
next_question-requires c = c.loop-end.invariant.5

pub shape_of-marks-in_default : goal.shape_of-marks-in_default
shape_of-marks-in_default c = ap length c.loop-end.invariant.0

pub shape_of-walk-in_default : goal.shape_of-walk-in_default
shape_of-walk-in_default c = c.loop-end.invariant.1

pub shape_of-hits-in_default : goal.shape_of-hits-in_default
shape_of-hits-in_default c = c.loop-end.invariant.2

pub shape_of-words-in_default : goal.shape_of-words-in_default
shape_of-words-in_default c = c.loop-end.invariant.3

pub returns-in_default : goal.returns-in_default
returns-in_default c =
    let T = table_of c.args.text.now c.args.rows.now in
    let none = due-none T _ c.next_question.ensures c.in_default.is in
    record { value = sym (le-leb (length (flat (reply_bytes T) (question_lines c.args.questions.now))) c.args.room (omega (arith, c.loop-end.invariant.6, none))); marks_unchanged = c.loop-end.invariant.0; lent = c.loop-end.invariant.4 }

pub slice_bounds-line-count : goal.slice_bounds-line-count
slice_bounds-line-count c =
    let w = inside (table_of c.args.text.now c.args.rows.now) _ c.next_question.ensures c.in-Some.is in w.0

pub slice_bounds-line-start : goal.slice_bounds-line-start
slice_bounds-line-start c =
    let w = inside (table_of c.args.text.now c.args.rows.now) _ c.next_question.ensures c.in-Some.is in omega (arith, w.0, w.1)

pub slice_bounds-line-end : goal.slice_bounds-line-end
slice_bounds-line-end c =
    let w = inside (table_of c.args.text.now c.args.rows.now) _ c.next_question.ensures c.in-Some.is in omega (arith, w.0, w.1)

pub reply_length-n-requires : goal.reply_length-n-requires
reply_length-n-requires c =
    record { library = c.requires.library; mark_words_in_bounds = (rw c.loop-end.invariant.0 c.requires.mark_words_in_bounds.0, c.loop-end.invariant.4); marks_value = rw c.loop-end.invariant.0 c.requires.marks_value }

pub shape_of-marks-then-left-n : goal.shape_of-marks-then-left-n
shape_of-marks-then-left-n c = ap length (c.reply_length-n.ensures.marks_unchanged ∙ c.loop-end.invariant.0)

pub shape_of-walk-then-left-n : goal.shape_of-walk-then-left-n
shape_of-walk-then-left-n c = c.reply_length-n.auto.walk ∙ c.loop-end.invariant.1

pub shape_of-hits-then-left-n : goal.shape_of-hits-then-left-n
shape_of-hits-then-left-n c = c.reply_length-n.auto.hits ∙ c.loop-end.invariant.2

pub shape_of-words-then-left-n : goal.shape_of-words-then-left-n
shape_of-words-then-left-n c = c.reply_length-n.auto.words ∙ c.loop-end.invariant.3

pub returns-then-left-n : goal.returns-then-left-n
unfolding part
returns-then-left-n c =
    let T = table_of c.args.text.now c.args.rows.now in
    let next = due-next T _ c.next_question.ensures c.in-Some.is in
    record { value = sym (lt-leb (length (flat (reply_bytes T) (question_lines c.args.questions.now))) c.args.room (omega (arith, c.loop-end.invariant.6, next, c.reply_length-n.ensures.value, c.if-left-n.true))); marks_unchanged = c.reply_length-n.ensures.marks_unchanged ∙ c.loop-end.invariant.0; lent = c.reply_length-n.ensures.lent }

pub loop-end-smaller : goal.loop-end-smaller
loop-end-smaller c =
    let w = inside (table_of c.args.text.now c.args.rows.now) _ c.next_question.ensures c.in-Some.is in omega (arith, w.2, w.3)

pub loop-end-preserved : goal.loop-end-preserved
unfolding part
loop-end-preserved c =
    let T = table_of c.args.text.now c.args.rows.now in
    let next = due-next T _ c.next_question.ensures c.in-Some.is in
    let w = inside T _ c.next_question.ensures c.in-Some.is in (
      c.reply_length-n.ensures.marks_unchanged ∙ c.loop-end.invariant.0,
      c.reply_length-n.auto.walk ∙ c.loop-end.invariant.1,
      c.reply_length-n.auto.hits ∙ c.loop-end.invariant.2,
      c.reply_length-n.auto.words ∙ c.loop-end.invariant.3,
      c.reply_length-n.ensures.lent,
      w.3,
      omega (arith, c.loop-end.invariant.6, next, c.reply_length-n.ensures.value, c.if-left-n.false),
    )
