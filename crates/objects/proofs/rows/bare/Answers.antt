use Rattle.objects.proofs.Reading.{bare-yes, bare-no}
use Rattle.objects.proofs.rows.bare.Goals as goal

pub returns-then-pointer_at : goal.returns-then-pointer_at
returns-then-pointer_at c = bare-yes _ _ c.pointer_at.ensures c.if-pointer_at.true c.type_word.ensures

pub returns-else-pointer_at : goal.returns-else-pointer_at
returns-else-pointer_at c = bare-no _ _ c.pointer_at.ensures c.if-pointer_at.false
