use Rattle.std.proofs.Common.{rules}
use Rattle.cycles.proofs.RankLaws.{clear_in, clear-more}
use Rattle.cycles.proofs.ranks.clear.Goals as goal

pub put_rank-requires : goal.put_rank-requires
put_rank-requires c =
    (c.loop-t.invariant.1.same.laid, clear_in _ _ _ c.loop-t.invariant.1 c.type_count-t-end.ensures c.loop-t-test.true)

pub loop-t-preserved : goal.loop-t-preserved
loop-t-preserved c = (search rules, clear-more _ _ _ _ c.loop-t.invariant.1 c.put_rank.ensures)
