use borrow.Author.Tests.{ne_eqb}
use Rattle.cycles.proofs.Acyclic.{ranked-decides}
use Rattle.cycles.proofs.search.on_cycle.Goals as goal

pub returns-else-rank-eq0 : goal.returns-else-rank-eq0
returns-else-rank-eq0 c = rw (ne_eqb c.rank.result 0 c.if-rank-eq0.false) (ranked-decides _ c.requires.0 c.args.t c.requires.1 c.rank.ensures c.if-rank-eq0.false)
