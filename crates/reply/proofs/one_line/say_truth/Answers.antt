-- `say_truth` meets its contract.
use Rattle.reply.proofs.Saying.{yes-said, no-said}
use Rattle.reply.proofs.one_line.say_truth.Goals as goal

pub returns-then-b : goal.returns-then-b
returns-then-b c = yes-said _ c.if-b.true c.say_word.ensures

pub returns-else-b : goal.returns-else-b
returns-else-b c = no-said _ c.if-b.false c.say_word-else-b.ensures
