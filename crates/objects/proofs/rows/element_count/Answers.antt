use Rattle.objects.specs.Rows.{element_count}
use Rattle.objects.proofs.rows.element_count.Goals as goal

pub returns : goal.returns
unfolding element_count
returns c = c.word.ensures
