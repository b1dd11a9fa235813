use mathlib.Core.Path.{◌∙◌}
use Rattle.objects.proofs.Reading.{number-least}
use Rattle.objects.proofs.rows.kind_number.Goals as goal

pub returns : goal.returns
returns c = c.min.ensures ∙ number-least _ _ c.type_word.ensures
