-- `text::scan::byte` meets its contract. Before the end within the text stands a byte, from it on none.
use mathlib.Core.Path.{sym, ◌∙◌}
use Rattle.text.proofs.PartLaws.{stop-in, byte-is, byte-none}
use Rattle.text.proofs.scan.byte.Goals as goal

pub bounds-s-at : goal.bounds-s-at
bounds-s-at c = (stop-in _ _ _ c.stop.ensures c.if-at-stop.true).1

pub returns-then-at-stop : goal.returns-then-at-stop
returns-then-at-stop c = c.from.ensures ∙ sym (byte-is _ _ _ c.stop.ensures c.if-at-stop.true)

pub returns-else-at-stop : goal.returns-else-at-stop
returns-else-at-stop c = sym (byte-none _ _ _ c.stop.ensures c.if-at-stop.false)
