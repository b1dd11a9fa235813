use Rattle.cycles.proofs.ContainedLaws.{contained}
use Rattle.cycles.proofs.containing.Goals as goal

pub first_back-requires : goal.first_back-requires
first_back-requires c = c.peel.ensures.ranks

pub returns : goal.returns
returns c = contained _ _ c.peel.ensures _ c.first_back.ensures
