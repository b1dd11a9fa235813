use Rattle.cycles.proofs.RankLaws.{pass-in}
use Rattle.cycles.proofs.ranks.pass.Goals as goal

pub give-after-requires : goal.give-after-requires
give-after-requires c =
    (c.loop-t.invariant.1.ranking, pass-in _ _ _ _ _ c.loop-t.invariant.1 c.type_count-t-end.ensures c.loop-t-test.true)
