-- `carried` meets its contract.
use Rattle.table_text.proofs.Writing.{carried-within, carried-beyond}
use Rattle.table_text.proofs.parts.carried.Goals as goal

pub returns-then-at-numbers : goal.returns-then-at-numbers
returns-then-at-numbers c = carried-within _ _ c.if-at-numbers.true

pub returns-else-at-numbers : goal.returns-else-at-numbers
returns-else-at-numbers c = carried-beyond _ _ c.if-at-numbers.false
