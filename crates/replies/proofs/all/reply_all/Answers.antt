-- `reply_all` meets its contract: the length of all is known before a byte is written.
use mathlib.Core.Path.{sym, ap, ◌∙◌}
use Prim.Native.Nat.{ℕ, ◌^◌, ◌≤◌, ◌<◌}
use native.Mathlib.Omega.{arith}
use lib.ListN.{length}
use Rattle.replies.proofs.Filling.{stage-long, left-long, all_room, all_said}
use Rattle.replies.proofs.all.reply_all.Goals as goal

below : {a b : ℕ} → a ≤ b → b < 2 ^ 64 → a < 2 ^ 64
below h k = omega arith

pub returns-then-answers-n : goal.returns-then-answers-n
returns-then-answers-n c =
    record { ends = stage-long _ _ _ _ c.fill-first.ensures.fills c.if-answers-n.true; marks_unchanged = c.fill-first.ensures.marks_unchanged }

pub fits-requires : goal.fits-requires
fits-requires c =
    record { library = c.requires.library; mark_words_in_bounds = (rw c.fill-first.ensures.marks_unchanged c.requires.mark_words_in_bounds.0, c.fill-first.ensures.lent); marks_value = rw c.fill-first.ensures.marks_unchanged c.requires.marks_value }

pub fill-last-requires : goal.fill-last-requires
fill-last-requires c =
    let clear = c.fits.ensures.marks_unchanged ∙ c.fill-first.ensures.marks_unchanged in
    record { library = c.requires.library; mark_words_in_bounds = (rw clear c.requires.mark_words_in_bounds.0, c.fits.ensures.lent); marks_value = rw clear c.requires.marks_value }

pub overflow_add-total : goal.overflow_add-total
overflow_add-total c =
    record { fits = below (all_room _ _ _ c.args.answers.now c.fill-first.ensures.fills c.if-answers-n.false c.put_front.ensures (sym c.fits.ensures.value ∙ c.if-fits.true) c.fill-last.ensures.fills) (omega arith) }

pub shape_of-marks-then-fits : goal.shape_of-marks-then-fits
shape_of-marks-then-fits c =
    ap length (c.fill-last.ensures.marks_unchanged ∙ c.fits.ensures.marks_unchanged ∙ c.fill-first.ensures.marks_unchanged)

pub shape_of-walk-then-fits : goal.shape_of-walk-then-fits
shape_of-walk-then-fits c = c.fill-last.auto.walk ∙ c.fits.auto.walk ∙ c.fill-first.auto.walk

pub shape_of-hits-then-fits : goal.shape_of-hits-then-fits
shape_of-hits-then-fits c = c.fill-last.auto.hits ∙ c.fits.auto.hits ∙ c.fill-first.auto.hits

pub shape_of-words-then-fits : goal.shape_of-words-then-fits
shape_of-words-then-fits c = c.fill-last.auto.words ∙ c.fits.auto.words ∙ c.fill-first.auto.words

pub returns-then-fits : goal.returns-then-fits
returns-then-fits c =
    record { ends = all_said _ _ _ _ c.fill-first.ensures.fills c.if-answers-n.false c.put_front.ensures (sym c.fits.ensures.value ∙ c.if-fits.true) c.fill-last.ensures.fills; marks_unchanged = c.fill-last.ensures.marks_unchanged ∙ c.fits.ensures.marks_unchanged ∙ c.fill-first.ensures.marks_unchanged }

pub returns : goal.returns
returns c =
    record { ends = left-long _ _ _ _ c.fill-first.ensures.fills c.if-answers-n.false (sym c.fits.ensures.value ∙ c.if-fits.false); marks_unchanged = c.fits.ensures.marks_unchanged ∙ c.fill-first.ensures.marks_unchanged }
