use Rattle.rules.specs.Library.{rank_read}
use Rattle.cycles.proofs.ranks.rank.Goals as goal

pub returns : goal.returns
unfolding rank_read
returns c = c.type_word.ensures
