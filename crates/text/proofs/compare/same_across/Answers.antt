-- `text::compare::same_across` meets its contract. The parts are what `span` ensures.
use mathlib.Core.Path.{sym, ap₂, ◌∙◌}
use borrow.Author.Tests.{ne_eqb}
use Rattle.text.specs.Bytes.{same_bytes}
use Rattle.text.proofs.CompareLaws.{parts-length}
use Rattle.text.proofs.compare.same_across.Goals as goal

pub returns-then-x-y : goal.returns-then-x-y
returns-then-x-y c = c.same.ensures ∙ ap₂ same_bytes c.span-x.ensures c.span-y.ensures

pub returns-else-x-y : goal.returns-else-x-y
returns-else-x-y c = ne_eqb _ _ c.if-x-y.false ∙ sym (parts-length c.span-x.ensures c.span-y.ensures c.if-x-y.false)
