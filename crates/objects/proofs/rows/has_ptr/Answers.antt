use mathlib.Core.Path.{ap}
use lib.Dec.{ltb}
use Rattle.objects.specs.Types.{ptr_read}
use Rattle.objects.proofs.rows.has_ptr.Goals as goal

pub returns : goal.returns
unfolding ptr_read
returns c = ap (λ k. ltb 2 k) c.member_word.ensures
