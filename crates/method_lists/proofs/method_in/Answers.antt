use native.Mathlib.Omega.{arith}
use Rattle.method_lists.proofs.ReadLaws.{end-small, method-is}
use Rattle.method_lists.proofs.method_in.Goals as goal

pub overflow_add-result : goal.overflow_add-result
overflow_add-result c =
    omega (arith, end-small _ _ c.requires.laid.0 c.requires.laid.1, c.requires.laid.2, c.requires.first_value)

pub returns : goal.returns
returns c = method-is _ _ _ c.requires.first_value
