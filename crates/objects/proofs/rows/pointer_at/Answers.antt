use mathlib.Core.Path.{ap}
use lib.Dec.{eqb}
use Rattle.objects.specs.Types.{pointer_read}
use Rattle.objects.proofs.rows.pointer_at.Goals as goal

pub returns : goal.returns
unfolding pointer_read
returns c = ap (λ k. eqb k 3) c.kind_number.ensures
