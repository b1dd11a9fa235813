-- `cycles::ranks::all_ranked` meets its contract.
use Rattle.cycles.proofs.RankLaws.{all-ranked}
use Rattle.cycles.proofs.ranks.all_ranked.Goals as goal

pub returns : goal.returns
returns c = all-ranked _ _ c.requires.1 _ c.first_waiting.ensures c.is_none.ensures
