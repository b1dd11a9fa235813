-- `question::ended` meets its contract.
use Rattle.question.proofs.FormLaws.{ended-reads}
use Rattle.question.proofs.ended.Goals as goal

pub returns : goal.returns
returns c = λ line q h. ended-reads line _ c.done.ensures q _ c.then_some.ensures h
