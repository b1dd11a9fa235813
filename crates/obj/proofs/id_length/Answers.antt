-- `obj::id_length` meets its contract.
use Rattle.std.proofs.Common.{rules}
use mathlib.Core.Path.{sym, ap}
use lib.ListN.{length}
use Rattle.obj.proofs.IdLaws.{joined-name, length-blank, length-path}
use Rattle.obj.proofs.id_length.Goals as goal

pub returns-in-0 : goal.returns-in-0
returns-in-0 c = sym (ap length (joined-name c.args.path.now c.args.name.now c.in-0.is))

pub returns-in-1 : goal.returns-in-1
returns-in-1 c = length-blank c.args.path.now c.args.name.now c.in-1.is

pub returns-in_default : goal.returns-in_default
returns-in_default c = length-path c.args.path.now c.args.name.now (search rules) (search rules)
