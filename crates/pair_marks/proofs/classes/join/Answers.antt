use Rattle.pair_marks.proofs.JoinLaws.{joined}
use Rattle.pair_marks.proofs.classes.join.Goals as goal

pub returns : goal.returns
returns c = joined _ _ _ _ c.requires.0 c.requires.1 c.relabel.ensures
