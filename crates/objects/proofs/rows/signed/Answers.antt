use Rattle.objects.specs.Rows.{signed_of}
use Rattle.objects.proofs.rows.signed.Goals as goal

pub returns : goal.returns
unfolding signed_of
returns c = c.word.ensures
