use Rattle.std.proofs.Common.{rules}
use Rattle.objects.proofs.Reading.{dir-both, dir-send, dir-receive}
use Rattle.objects.proofs.rows.direction.Goals as goal

pub returns-in-0 : goal.returns-in-0
returns-in-0 c = dir-both c.in-0.is

pub returns-in-1 : goal.returns-in-1
returns-in-1 c = dir-send c.in-1.is

pub returns-in_default : goal.returns-in_default
returns-in_default c = dir-receive (search rules) (search rules)
