use Rattle.std.proofs.Common.{rules}
use native.Mathlib.Omega.{arith}
use Rattle.cycles.proofs.SearchLaws.{queue-few, search-found, search-more, search-none}
use Rattle.cycles.proofs.search.look.Goals as goal

pub returns-then-x-t : goal.returns-then-x-t
returns-then-x-t c =
    search-found _ _ c.requires.2 c.requires.3 _ _ _ _ c.loop-done.invariant.2 c.loop-done-test.true c.word-x.ensures c.if-x-t.true

pub loop-done-smaller : goal.loop-done-smaller
loop-done-smaller c = omega (arith, c.loop-done-test.true, queue-few _ _ _ c.loop-done.invariant.2.queued)

pub loop-done-preserved : goal.loop-done-preserved
loop-done-preserved c =
    (search rules, search rules, search-more _ _ c.requires.2 c.requires.3 _ _ _ _ c.loop-done.invariant.2 c.loop-done-test.true c.word-x.ensures c.if-x-t.false _ _ _ c.meet-end.ensures)

pub returns : goal.returns
returns c = search-none _ _ c.requires.2 c.requires.3 _ _ _ _ c.loop-done.invariant.2 c.loop-done-test.false
