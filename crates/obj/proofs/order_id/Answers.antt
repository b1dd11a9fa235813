-- `obj::order_id` meets its contract.
use mathlib.Core.Path.{ap₂, ◌∙◌}
use Rattle.text.specs.Compare.{order_of}
use Rattle.obj.proofs.order_id.Goals as goal

pub returns : goal.returns
returns c = c.order_ids.ensures ∙ ap₂ order_of c.id_of.ensures c.id_of-2.ensures
