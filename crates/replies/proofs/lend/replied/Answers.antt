-- `replied` meets its contract: many questions, or one by what it is lent.
use mathlib.Core.Path.{sym, ◌∙◌}
use Rattle.replies.proofs.Filling.{ends_as}
use Rattle.replies.proofs.lend.replied.Goals as goal

pub returns-in-All : goal.returns-in-All
returns-in-All c =
    record { ends = ends_as _ _ c.in-All.is c.with_all.ensures.ends; marks_unchanged = c.with_all.ensures.marks_unchanged }

pub with_nothing-requires : goal.with_nothing-requires
with_nothing-requires c =
    record { library = c.requires.library; mark_words_in_bounds = (c.requires.mark_words_in_bounds, sym (c.lent_for.ensures c.args.text.now) ∙ c.in-Nothing.is); marks_value = c.requires.marks_value }

pub with_walk-requires : goal.with_walk-requires
with_walk-requires c =
    record { library = c.requires.library; mark_words_in_bounds = (c.requires.mark_words_in_bounds, sym (c.lent_for.ensures c.args.text.now) ∙ c.in-Walk.is); marks_value = c.requires.marks_value }

pub returns-in-Nothing : goal.returns-in-Nothing
returns-in-Nothing c =
    record { ends = ends_as _ _ c.in-One.is c.with_nothing.ensures.ends; marks_unchanged = c.with_nothing.ensures.marks_unchanged }

pub returns-in-Walk : goal.returns-in-Walk
returns-in-Walk c =
    record { ends = ends_as _ _ c.in-One.is c.with_walk.ensures.ends; marks_unchanged = c.with_walk.ensures.marks_unchanged }

pub returns-in-Set : goal.returns-in-Set
returns-in-Set c =
    record { ends = ends_as _ _ c.in-One.is c.with_all-in-Set.ensures.ends; marks_unchanged = c.with_all-in-Set.ensures.marks_unchanged }
