use Rattle.std.proofs.Common.{rules}
use Rattle.references.proofs.Allowing.{iface-has, named-has, struct-has}
use Rattle.references.proofs.allowed.may_have.Goals as goal

pub returns-in-9 : goal.returns-in-9
returns-in-9 c text = iface-has text c.args.rows.now c.args.t (c.requires.0) c.args.ptr c.kind_number.ensures c.in-9.is

pub returns-in-10 : goal.returns-in-10
returns-in-10 c text =
    named-has text c.args.rows.now c.args.t (c.requires.0) c.args.ptr c.kind_number.ensures c.in-10.is c.type_word.ensures (c.concrete.ensures text)

pub returns-in_default : goal.returns-in_default
returns-in_default c text =
    struct-has text c.args.rows.now c.args.t (c.requires.0) c.args.ptr c.kind_number.ensures (c.requires.1) (search rules) (search rules)
