use Rattle.objects.proofs.Reading.{under-yes, under-no}
use Rattle.objects.proofs.rows.under.Goals as goal

pub returns-then-named_at : goal.returns-then-named_at
returns-then-named_at c = under-yes _ _ c.named_at.ensures c.if-named_at.true c.type_word.ensures

pub returns-else-named_at : goal.returns-else-named_at
returns-else-named_at c = under-no _ _ c.named_at.ensures c.if-named_at.false
