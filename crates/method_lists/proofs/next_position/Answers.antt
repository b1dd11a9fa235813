use native.Mathlib.Omega.{arith}
use Rattle.method_lists.specs.Positions.{next_position}
use Rattle.method_lists.proofs.ReadLaws.{end-small}
use Rattle.method_lists.proofs.next_position.Goals as goal

pub overflow_add-result : goal.overflow_add-result
overflow_add-result c =
    omega (arith, end-small _ _ c.requires.0 c.requires.1, c.requires.2)

pub returns : goal.returns
unfolding next_position
returns c = omega arith
