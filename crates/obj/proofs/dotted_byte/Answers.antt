-- `obj::dotted_byte` meets its contract.
use mathlib.Core.Path.{◌∙◌}
use Rattle.obj.proofs.IdLaws.{dot-here, dot_before}
use Rattle.obj.proofs.dotted_byte.Goals as goal

pub returns-then-i-n : goal.returns-then-i-n
returns-then-i-n c = dot-here c.args.name.now _ _ c.if-i-n.true

pub returns-else-i-n : goal.returns-else-i-n
returns-else-i-n c = c.byte_at.ensures ∙ dot_before c.args.name.now _ _ c.requires c.if-i-n.false
