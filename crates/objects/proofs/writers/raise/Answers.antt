use native.Mathlib.Omega.{arith}
use Rattle.objects.proofs.Writing.{raised_is, raised-small}
use Rattle.objects.proofs.writers.raise.Goals as goal

pub overflow_add-count : goal.overflow_add-count
overflow_add-count c = omega (arith, raised-small _ c.type_count-n.ensures c.word-count.ensures c.requires.0 c.requires.1)

pub returns : goal.returns
returns c = raised_is _ c.type_count-n.ensures c.word-count.ensures
