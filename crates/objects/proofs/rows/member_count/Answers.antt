use Rattle.objects.specs.Rows.{member_count_of}
use Rattle.objects.proofs.rows.member_count.Goals as goal

pub returns : goal.returns
unfolding member_count_of
returns c = c.word.ensures
