use Rattle.objects.specs.Types.{first_read}
use Rattle.objects.proofs.rows.first_member.Goals as goal

pub returns : goal.returns
unfolding first_read
returns c = c.type_word.ensures
