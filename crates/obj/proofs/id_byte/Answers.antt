-- `obj::id_byte` meets its contract.
use Rattle.std.proofs.Common.{rules}
use mathlib.Core.Path.{sym, ap, ◌∙◌}
use lib.ListN.{get_or}
use Rattle.obj.proofs.IdLaws.{joined-name, byte-blank, byte-behind-blank, byte-of-path, byte-behind-path}
use Rattle.obj.proofs.id_byte.Goals as goal

pub returns-in-0 : goal.returns-in-0
returns-in-0 c =
    c.byte_at.ensures ∙ ap (λ l. get_or l c.args.i 0) (sym (joined-name c.args.path.now c.args.name.now c.in-0.is))

pub returns-then-i-eq0 : goal.returns-then-i-eq0
returns-then-i-eq0 c = byte-blank c.args.path.now c.args.name.now _ c.in-1.is c.if-i-eq0.true

pub returns-else-i-eq0 : goal.returns-else-i-eq0
returns-else-i-eq0 c =
    c.dotted_byte.ensures ∙ byte-behind-blank c.args.path.now c.args.name.now _ c.in-1.is c.if-i-eq0.false

pub returns-then-i-path : goal.returns-then-i-path
returns-then-i-path c =
    c.byte_at-then-i-path.ensures ∙ byte-of-path c.args.path.now c.args.name.now _ (search rules) (search rules) c.if-i-path.true

pub returns-else-i-path : goal.returns-else-i-path
returns-else-i-path c =
    c.dotted_byte-else-i-path.ensures ∙ byte-behind-path c.args.path.now c.args.name.now _ (search rules) (search rules) c.if-i-path.false
