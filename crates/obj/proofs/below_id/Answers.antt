-- `obj::below_id` meets its contract.
use mathlib.Core.Path.{◌∙◌}
use Rattle.text.proofs.CompareLaws.{less-below}
use Rattle.obj.proofs.below_id.Goals as goal

pub returns : goal.returns
returns c = c.is_lt.ensures ∙ less-below _ _ c.order_id.ensures
