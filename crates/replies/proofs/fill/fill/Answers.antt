-- `fill` meets its contract and ends: at each turn the place lies further behind. The marks are clear at each turn, and the scratch may be lent again.
use mathlib.Core.Path.{refl, ap, ◌∙◌}
use Prim.Native.Nat.{ℕ, ◌-◌, ◌^◌, ◌≤◌, ◌<◌}
use native.Mathlib.Omega.{arith}
use lib.ListN.{length}
use borrow.Rule.Slice.PartMut.{same_len_mid}
use Rattle.text.specs.Cursors.{part}
use Rattle.replies.proofs.Replying.{said-is, unsaid-is}
use Rattle.replies.proofs.Filling.{none_filled, out-length, full-end, full-next, filling-kept, filled_next, within}
use Rattle.replies.proofs.fill.fill.Goals as goal

below : {a b : ℕ} → a ≤ b → b < 2 ^ 64 → a < 2 ^ 64
below h k = omega arith

pub loop-end-init : goal.loop-end-init
loop-end-init c = (refl, refl, refl, refl, c.requires.mark_words_in_bounds.1, none_filled _ _ _)

pub next_question-requires : goal.next_question-requires
next_question-requires c = c.loop-end.invariant.5.inside

pub shape_of-marks-in_default : goal.shape_of-marks-in_default
shape_of-marks-in_default c = ap length c.loop-end.invariant.0

pub shape_of-walk-in_default : goal.shape_of-walk-in_default
shape_of-walk-in_default c = c.loop-end.invariant.1

pub shape_of-hits-in_default : goal.shape_of-hits-in_default
shape_of-hits-in_default c = c.loop-end.invariant.2

pub shape_of-words-in_default : goal.shape_of-words-in_default
shape_of-words-in_default c = c.loop-end.invariant.3

pub shape_of-out-in_default : goal.shape_of-out-in_default
shape_of-out-in_default c = out-length _ _ _ c.loop-end.invariant.5

pub returns-in_default : goal.returns-in_default
returns-in_default c =
    record { fills = record { filling = c.loop-end.invariant.5; full = full-end _ _ _ c.loop-end.invariant.5 c.next_question.ensures c.in_default.is }; marks_unchanged = c.loop-end.invariant.0; lent = c.loop-end.invariant.4 }

pub slice_bounds-line-count : goal.slice_bounds-line-count
slice_bounds-line-count c =
    let w = within _ _ _ c.loop-end.invariant.5 c.next_question.ensures c.in-Some.is in omega (arith, w.0, w.1)

pub slice_bounds-line-start : goal.slice_bounds-line-start
slice_bounds-line-start c =
    let w = within _ _ _ c.loop-end.invariant.5 c.next_question.ensures c.in-Some.is in omega (arith, w.0, w.1)

pub slice_bounds-line-end : goal.slice_bounds-line-end
slice_bounds-line-end c =
    let w = within _ _ _ c.loop-end.invariant.5 c.next_question.ensures c.in-Some.is in omega (arith, w.0, w.1)

pub slice_bounds-reply-count : goal.slice_bounds-reply-count
slice_bounds-reply-count c = omega (arith, c.loop-end.invariant.5.room, out-length _ _ _ c.loop-end.invariant.5)

pub slice_bounds-reply-start : goal.slice_bounds-reply-start
slice_bounds-reply-start c = omega (arith, c.loop-end.invariant.5.room, out-length _ _ _ c.loop-end.invariant.5)

pub slice_bounds-reply-end : goal.slice_bounds-reply-end
slice_bounds-reply-end c = omega (arith, c.loop-end.invariant.5.room, out-length _ _ _ c.loop-end.invariant.5)

pub reply-requires : goal.reply-requires
reply-requires c =
    record { library = c.requires.library; mark_words_in_bounds = (rw c.loop-end.invariant.0 c.requires.mark_words_in_bounds.0, c.loop-end.invariant.4); marks_value = rw c.loop-end.invariant.0 c.requires.marks_value }

pub overflow_add-n : goal.overflow_add-n
unfolding part
overflow_add-n c =
    let said = said-is c.reply.ensures.does c.in-Ok.is in
    let next = filled_next _ _ c.args.out.now c.loop-end.invariant.5 c.next_question.ensures c.in-Some.is said.0 said.1 said.2 in
    record { fits = below next.room (omega arith) }

pub loop-end-smaller : goal.loop-end-smaller
loop-end-smaller c =
    let w = within _ _ _ c.loop-end.invariant.5 c.next_question.ensures c.in-Some.is in omega (arith, w.2, w.3)

pub loop-end-preserved : goal.loop-end-preserved
unfolding part
loop-end-preserved c =
    let said = said-is c.reply.ensures.does c.in-Ok.is in (
      c.reply.ensures.marks_unchanged ∙ c.loop-end.invariant.0,
      c.reply.auto.walk ∙ c.loop-end.invariant.1,
      c.reply.auto.hits ∙ c.loop-end.invariant.2,
      c.reply.auto.words ∙ c.loop-end.invariant.3,
      c.reply.ensures.lent,
      filled_next _ _ _ c.loop-end.invariant.5 c.next_question.ensures c.in-Some.is said.0 said.1 said.2,
    )

pub shape_of-marks-in-Err : goal.shape_of-marks-in-Err
shape_of-marks-in-Err c = ap length (c.reply.ensures.marks_unchanged ∙ c.loop-end.invariant.0)

pub shape_of-walk-in-Err : goal.shape_of-walk-in-Err
shape_of-walk-in-Err c = c.reply.auto.walk ∙ c.loop-end.invariant.1

pub shape_of-hits-in-Err : goal.shape_of-hits-in-Err
shape_of-hits-in-Err c = c.reply.auto.hits ∙ c.loop-end.invariant.2

pub shape_of-words-in-Err : goal.shape_of-words-in-Err
shape_of-words-in-Err c = c.reply.auto.words ∙ c.loop-end.invariant.3

pub shape_of-out-in-Err : goal.shape_of-out-in-Err
shape_of-out-in-Err c =
    same_len_mid c.loop-end.n (length c.loop-end.out - c.loop-end.n) c.loop-end.out c.reply.new.out c.reply.auto.out ∙ out-length _ _ _ c.loop-end.invariant.5

pub returns-in-Err : goal.returns-in-Err
unfolding part
returns-in-Err c =
    let long = unsaid-is c.reply.ensures.does _ c.in-Err.is in
    record { fills = record { filling = filling-kept _ _ _ c.loop-end.invariant.5 long.1; full = full-next _ _ _ c.loop-end.invariant.5 c.next_question.ensures c.in-Some.is long.0 }; marks_unchanged = c.reply.ensures.marks_unchanged ∙ c.loop-end.invariant.0; lent = c.reply.ensures.lent }
