use Rattle.objects.proofs.Ranks.{rank-put}
use Rattle.objects.proofs.writers.put_rank.Goals as goal

pub returns : goal.returns
returns c = rank-put _ _ _ c.requires.0 c.requires.1
