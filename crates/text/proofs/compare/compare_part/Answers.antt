-- `text::compare::compare_part` meets its contract. The parts are what `span` ensures.
use mathlib.Core.Path.{ap₂, ◌∙◌}
use Rattle.text.specs.Compare.{order_of}
use Rattle.text.proofs.compare.compare_part.Goals as goal

pub returns : goal.returns
returns c = c.order.ensures ∙ ap₂ order_of c.span.ensures c.span-2.ensures
