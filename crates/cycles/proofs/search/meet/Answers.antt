use Rattle.std.proofs.Common.{rules}
use native.Mathlib.Omega.{arith}
use Rattle.cycles.proofs.SearchLaws.{content-small, meet-more}
use Rattle.cycles.proofs.search.meet.Goals as goal

pub push-after-requires : goal.push-after-requires
push-after-requires c =
    (omega (arith, c.requires.0, c.loop-i.invariant.0), omega (arith, c.requires.1, c.loop-i.invariant.1), content-small _ _ c.requires.2 c.requires.3 c.requires.4 c.content_total-i-end.ensures _ c.loop-i-test.true c.content-e.ensures, c.loop-i.invariant.2.grown.queued)

pub loop-i-preserved : goal.loop-i-preserved
loop-i-preserved c =
    (search rules, search rules, meet-more _ _ _ _ _ _ _ _ _ _ _ _ c.requires.4 (omega (arith, c.content_total-i-end.ensures, c.loop-i-test.true)) c.loop-i.invariant.2 c.content-e.ensures c.push-after.ensures)
