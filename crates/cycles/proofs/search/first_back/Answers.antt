use native.Mathlib.Omega.{arith}
use Rattle.cycles.proofs.LineLaws.{clear-more, finds-none, finds-some}
use Rattle.cycles.proofs.search.first_back.Goals as goal

pub returns-then-on_cycle : goal.returns-then-on_cycle
returns-then-on_cycle c =
    finds-some _ c.requires.within c.type_count-t-end.ensures _ c.loop-t-test.true c.loop-t.invariant (c.on_cycle.ensures.yes c.if-on_cycle.true) c.type_word.ensures

pub loop-t-preserved : goal.loop-t-preserved
loop-t-preserved c =
    clear-more _ c.requires.within _ c.loop-t.invariant (c.on_cycle.ensures.no c.if-on_cycle.false)

pub returns : goal.returns
returns c = finds-none _ c.requires.within c.type_count-t-end.ensures _ (omega arith) c.loop-t.invariant
