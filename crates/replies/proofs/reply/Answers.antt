-- `reply` meets its contract: an answer stands as it is, a refusal as its line.
use mathlib.Core.Path.{ap, ◌∙◌}
use Rattle.std.specs.Prelude.{Err}
use Rattle.replies.proofs.Replying.{lent-enough, lent-kept, reply-refused, reply-said, reply-long}
use Rattle.replies.proofs.reply.Goals as goal

pub answered-d-requires : goal.answered-d-requires
answered-d-requires c =
    record { library = c.requires.library; mark_words_in_bounds = (c.requires.mark_words_in_bounds.0, lent-enough _ _ _ _ c.requires.mark_words_in_bounds.1 _); marks_value = c.requires.marks_value }

pub returns-in-Refused : goal.returns-in-Refused
returns-in-Refused c =
    let lent = lent-kept c.requires.mark_words_in_bounds.1 c.answered-d.ensures.kept c.answered-d.auto.walk c.answered-d.auto.words in
    record { does = reply-refused _ _ c.answered-d.ensures.does (c.in-Err.is ∙ ap Err c.in-Refused.is) c.number.ensures c.say_refused.ensures; marks_unchanged = c.answered-d.ensures.marks_unchanged; lent = lent }

pub returns-in_default : goal.returns-in_default
returns-in_default c =
    let lent = lent-kept c.requires.mark_words_in_bounds.1 c.answered-d.ensures.kept c.answered-d.auto.walk c.answered-d.auto.words in
    record { does = reply-said _ _ c.answered-d.ensures.does c.in_default.is; marks_unchanged = c.answered-d.ensures.marks_unchanged; lent = lent }

pub returns-in-Long : goal.returns-in-Long
returns-in-Long c =
    let lent = lent-kept c.requires.mark_words_in_bounds.1 c.answered-d.ensures.kept c.answered-d.auto.walk c.answered-d.auto.words in
    record { does = rw c.in-Err.is at (reply-long _ _ c.answered-d.ensures.does (c.in-Err.is ∙ ap Err c.in-Long.is)); marks_unchanged = c.answered-d.ensures.marks_unchanged; lent = lent }
