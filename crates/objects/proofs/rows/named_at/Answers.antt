use mathlib.Core.Path.{ap}
use lib.Dec.{eqb}
use Rattle.objects.specs.Types.{named_read}
use Rattle.objects.proofs.rows.named_at.Goals as goal

pub returns : goal.returns
unfolding named_read
returns c = ap (λ k. eqb k 10) c.kind_number.ensures
