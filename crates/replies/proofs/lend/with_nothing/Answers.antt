-- `with_nothing` meets its contract.
use Rattle.replies.specs.Replies.{said_of}
use Rattle.replies.proofs.Lending.{need-nothing, ends-does}
use Rattle.replies.proofs.lend.with_nothing.Goals as goal

pub answered-requires : goal.answered-requires
answered-requires c =
    record { library = c.requires.library; mark_words_in_bounds = (c.requires.mark_words_in_bounds.0, need-nothing _ _ _ _ c.requires.mark_words_in_bounds.1); marks_value = c.requires.marks_value }

pub returns : goal.returns
unfolding said_of
returns c =
    record { ends = ends-does c.answered.ensures.does; marks_unchanged = c.answered.ensures.marks_unchanged }
