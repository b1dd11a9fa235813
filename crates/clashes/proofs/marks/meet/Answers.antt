-- `clashes::marks::meet` meets its contract.

use Rattle.clashes.proofs.marks.meet.Goals as goal

pub returns : goal.returns
returns c = record { grows = c.mark.ensures.0; here = c.mark.ensures.1; new = c.marked-before.ensures }
