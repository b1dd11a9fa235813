-- `put_end` meets its contract.
use Rattle.table_text.proofs.WritingMembers.{end-wrote}
use Rattle.table_text.proofs.parts.put_end.Goals as goal

pub returns : goal.returns
returns c = end-wrote _ _
