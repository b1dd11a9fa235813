use Rattle.objects.specs.Types.{total_read}
use Rattle.objects.proofs.rows.member_total.Goals as goal

pub returns : goal.returns
unfolding total_read
returns c = c.type_word.ensures
