use mathlib.Core.Path.{ap}
use Rattle.objects.specs.Table.{type_key}
use Rattle.objects.specs.Types.{member_type_read}
use Rattle.objects.proofs.rows.member_type.Goals as goal

pub returns : goal.returns
unfolding member_type_read
returns c = ap type_key c.member_word.ensures
