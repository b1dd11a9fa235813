use mathlib.Core.Path.{ap}
use lib.Dec.{eqb}
use Rattle.objects.specs.Types.{embedded_read}
use Rattle.objects.proofs.rows.is_embedded.Goals as goal

pub returns : goal.returns
unfolding embedded_read
returns c = ap (λ k. eqb k 1) c.member_word.ensures
