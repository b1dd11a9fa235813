-- `text::scan::stop` meets its contract. The smaller of the end and the length.
use mathlib.Core.Path.{◌∙◌}
use Rattle.text.proofs.PartLaws.{stop-least}
use Rattle.text.proofs.scan.stop.Goals as goal

pub returns : goal.returns
returns c = c.min.ensures ∙ stop-least c.args.s.now c.args.end
