use Rattle.std.proofs.Common.{arith}
use Rattle.objects.specs.Bounds.{members_at}
use Rattle.objects.proofs.rows.members_at.Goals as goal

pub returns-clause-value : goal.returns-clause-value
unfolding members_at
returns-clause-value c = omega (arith, c.min.ensures)
