-- `selection::find` meets its contract. The invariant: what the whole list gives, the members from i on give.
use Rattle.selection.proofs.FindLaws.{find-here, find-next, find-end, find-skip}
use Rattle.selection.proofs.find.Goals as goal

pub loop-i-preserved-then-all-i : goal.loop-i-preserved-then-all-i
loop-i-preserved-then-all-i c =
    let signs = rw c.in-Some.is at c.requires.signs in
    find-skip _ _ _ _ _ _ signs _ c.loop-i-test.true c.if-all-i.true c.loop-i.invariant

pub returns-then-same_id : goal.returns-then-same_id
returns-then-same_id c =
    find-here _ _ _ _ _ _ _ c.loop-i-test.true c.loop-i.invariant c.same_id.ensures c.if-same_id.true

pub loop-i-preserved : goal.loop-i-preserved
loop-i-preserved c =
    find-next _ _ _ _ _ _ _ c.loop-i-test.true c.loop-i.invariant c.same_id.ensures c.if-same_id.false

pub returns : goal.returns
returns c = find-end _ _ _ _ _ _ _ c.loop-i.auto.i-end c.loop-i-test.false c.loop-i.invariant
