use Rattle.std.proofs.Common.{rules}
use native.Mathlib.Omega.{arith}
use Rattle.cycles.proofs.LineLaws.{refers-within}
use Rattle.cycles.proofs.RankLaws.{advanced-passed, peel-start, peel-given, peel-less, peel-more, peel-end}
use Rattle.cycles.proofs.ranks.peel.Goals as goal

pub pass-most-requires : goal.pass-most-requires
pass-most-requires c = (peel-start _ (refers-within _ c.requires.1) _ c.clear.ensures).ranking

pub rest-next-requires : goal.rest-next-requires
rest-next-requires c = c.pass-most.ensures.ranking

pub loop-last-init : goal.loop-last-init
loop-last-init c = (search rules, peel-given _ _ c.rest-next.ensures.ranking)

pub pass-next-requires : goal.pass-next-requires
pass-next-requires c = c.loop-last.invariant.1.ranking

pub loop-last-smaller : goal.loop-last-smaller
loop-last-smaller c = omega (arith, peel-less _ _ _ _ c.loop-last.invariant.1)

pub loop-last-preserved : goal.loop-last-preserved
loop-last-preserved c = (search rules, peel-more _ _ _ _ _ _ c.loop-last.invariant.1 c.pass-next.ensures)

pub returns : goal.returns
returns c =
    peel-end _ _ (advanced-passed _ _ _ _ _ _ _ _ c.clear.ensures c.pass-most.ensures c.rest-next.ensures) _ _ _ c.loop-last.invariant.1 c.loop-last-test.false
