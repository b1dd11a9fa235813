-- `text::compare::same_part` meets its contract.

use Rattle.text.proofs.compare.same_part.Goals as goal

pub returns : goal.returns
returns c = c.same_across.ensures
