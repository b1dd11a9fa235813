use Rattle.objects.specs.Rows.{type_word}
use Rattle.objects.proofs.rows.type_word.Goals as goal

pub returns : goal.returns
unfolding type_word
returns c = c.word.ensures
