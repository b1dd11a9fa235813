use Rattle.objects.specs.Rows.{member_word}
use Rattle.objects.proofs.rows.member_word.Goals as goal

pub returns : goal.returns
unfolding member_word
returns c = rw (← c.members_at.ensures.value) c.word.ensures
