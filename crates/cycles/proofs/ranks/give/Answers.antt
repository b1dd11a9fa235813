use mathlib.Core.Path.{sym, ◌∙◌}
use native.Mathlib.Omega.{arith}
use Rattle.cycles.proofs.RankLaws.{next_small, give-none, give-next}
use Rattle.cycles.proofs.ranks.give.Goals as goal

pub returns-then-rank-ne0 : goal.returns-then-rank-ne0
returns-then-rank-ne0 c = give-none _ _ _ c.requires.0 c.requires.1 (λ z. absurd (c.if-rank-ne0.true (c.rank.ensures ∙ z)))

pub all_ranked-requires : goal.all_ranked-requires
all_ranked-requires c = (c.requires.0.ranks.laid, c.requires.1)

pub put_rank-requires : goal.put_rank-requires
put_rank-requires c = (c.requires.0.ranks.laid, c.requires.1)

pub overflow_add-result : goal.overflow_add-result
overflow_add-result c = omega (arith, next_small _ _ _ c.requires.0 c.requires.1)

pub returns-then-all_ranked : goal.returns-then-all_ranked
returns-then-all_ranked c =
    give-next _ _ _ c.requires.0 c.requires.1 _ (sym c.rank.ensures ∙ c.if-rank-ne0.false) (c.all_ranked.ensures.yes c.if-all_ranked.true) c.put_rank.ensures

pub returns-else-all_ranked : goal.returns-else-all_ranked
returns-else-all_ranked c = give-none _ _ _ c.requires.0 c.requires.1 (λ _. c.all_ranked.ensures.no c.if-all_ranked.false)
