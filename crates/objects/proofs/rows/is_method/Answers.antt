use mathlib.Core.Path.{ap}
use lib.Dec.{ltb}
use Rattle.objects.specs.Types.{method_read}
use Rattle.objects.proofs.rows.is_method.Goals as goal

pub returns : goal.returns
unfolding method_read
returns c = ap (λ k. ltb 1 k) c.member_word.ensures
