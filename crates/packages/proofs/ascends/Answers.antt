-- `packages::ascends` meets its contract: the order of the two paths says whether one is below the other.
use mathlib.Core.Path.{◌∙◌}
use Rattle.text.proofs.CompareLaws.{less-below}
use Rattle.packages.proofs.ascends.Goals as goal

pub returns : goal.returns
returns c = rw (← c.path_of-before.ensures, ← c.path_of-path.ensures) (c.is_lt.ensures ∙ less-below _ _ c.order.ensures)
