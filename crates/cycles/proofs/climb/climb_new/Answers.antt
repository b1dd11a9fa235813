-- `cycles::climb::climb_new` meets its contract.
use Rattle.cycles.proofs.RankLaws.{advanced-self}
use Rattle.cycles.proofs.climb.climb_new.Goals as goal

pub climb_from-requires : goal.climb_from-requires
climb_from-requires c = c.requires

pub returns-then-rank-eq0 : goal.returns-then-rank-eq0
returns-then-rank-eq0 c = c.climb_from.ensures

pub returns-else-rank-eq0 : goal.returns-else-rank-eq0
returns-else-rank-eq0 c = advanced-self _ _ c.requires.0
