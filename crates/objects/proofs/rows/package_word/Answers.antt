use Rattle.objects.specs.Rows.{package_word}
use Rattle.objects.proofs.rows.package_word.Goals as goal

pub returns : goal.returns
unfolding package_word
returns c = c.word.ensures
