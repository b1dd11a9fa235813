use native.Mathlib.Omega.{arith}
use Rattle.objects.proofs.Reading.{absent-said, is_said, is-numbered}
use Rattle.objects.proofs.writers.package_said.Goals as goal

pub overflow_add-result : goal.overflow_add-result
overflow_add-result c =
    omega (arith, is-numbered c.requires c.in-Some.is)

pub returns-in-None : goal.returns-in-None
returns-in-None c = absent-said c.in-None.is

pub returns-in-Some : goal.returns-in-Some
returns-in-Some c = is_said c.in-Some.is
