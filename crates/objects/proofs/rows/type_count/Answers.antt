use Rattle.objects.specs.Rows.{type_count}
use Rattle.objects.proofs.rows.type_count.Goals as goal

pub returns : goal.returns
unfolding type_count
returns c = c.word.ensures
