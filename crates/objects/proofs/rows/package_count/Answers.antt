use Rattle.objects.specs.Rows.{package_count}
use Rattle.objects.proofs.rows.package_count.Goals as goal

pub returns : goal.returns
unfolding package_count
returns c = c.word.ensures
