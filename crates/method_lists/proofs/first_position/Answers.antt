use mathlib.Core.Path.{refl}
use Rattle.method_lists.specs.Positions.{first_position}
use Rattle.method_lists.proofs.first_position.Goals as goal

pub returns : goal.returns
unfolding first_position
returns c = refl
