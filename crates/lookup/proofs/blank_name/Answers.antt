-- `lookup::blank_name` meets its contract.
use mathlib.Core.Path.{◌∙◌}
use Rattle.lookup.proofs.SelectLaws.{blank-asked}
use Rattle.lookup.proofs.blank_name.Goals as goal

pub returns : goal.returns
returns c = c.same.ensures ∙ blank-asked _ _ _ _ c.span.ensures
