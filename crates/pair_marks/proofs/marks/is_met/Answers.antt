use mathlib.Core.Path.{refl}
use Rattle.pair_marks.specs.Marks.{met, bit_at}
use Rattle.pair_marks.proofs.marks.is_met.Goals as goal

pub returns : goal.returns
unfolding met bit_at
returns c = refl
