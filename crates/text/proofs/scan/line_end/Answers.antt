-- `text::scan::line_end` meets its contract. A line ends where the run of bytes other than a newline does.
use mathlib.Core.Path.{sym, ◌∙◌}
use Rattle.text.proofs.LineEnds.{line-run}
use Rattle.text.proofs.scan.line_end.Goals as goal

pub returns : goal.returns
returns c = c.until.ensures ∙ sym (line-run c.args.s.now c.args.from)
