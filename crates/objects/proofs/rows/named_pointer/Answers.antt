use mathlib.Core.Path.{◌∙◌}
use Rattle.objects.proofs.Reading.{named-pointer-yes, named-pointer-no}
use Rattle.objects.proofs.rows.named_pointer.Goals as goal

pub returns-then-named_at : goal.returns-then-named_at
returns-then-named_at c = named-pointer-yes _ _ c.named_at.ensures c.if-named_at.true c.under.ensures c.pointer_at.ensures

pub returns-else-named_at : goal.returns-else-named_at
returns-else-named_at c = c.if-named_at.false ∙ named-pointer-no _ _ c.named_at.ensures c.if-named_at.false
