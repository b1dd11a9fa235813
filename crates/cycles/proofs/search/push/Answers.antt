use native.Mathlib.Omega.{arith}
use Rattle.cycles.proofs.SearchLaws.{push-old, push-room, push-new}
use Rattle.cycles.proofs.search.push.Goals as goal

pub offset_bounds-queue-end : goal.offset_bounds-queue-end
offset_bounds-queue-end c = omega (arith, push-room _ _ _ _ c.requires.2 c.requires.3 c.word.ensures c.if-word-eq0.true)

pub bounds-queue-end : goal.bounds-queue-end
bounds-queue-end c = omega (arith, push-room _ _ _ _ c.requires.2 c.requires.3 c.word.ensures c.if-word-eq0.true)

pub overflow_add-result : goal.overflow_add-result
overflow_add-result c = omega (arith, push-room _ _ _ _ c.requires.2 c.requires.3 c.word.ensures c.if-word-eq0.true)

pub returns-then-word-eq0 : goal.returns-then-word-eq0
returns-then-word-eq0 c =
    push-new _ _ _ _ c.requires.2 c.requires.3 c.word.ensures c.if-word-eq0.true c.requires.0 c.requires.1

pub returns-else-word-eq0 : goal.returns-else-word-eq0
returns-else-word-eq0 c = push-old _ _ _ _ c.requires.2 c.requires.3 c.word.ensures c.if-word-eq0.false
