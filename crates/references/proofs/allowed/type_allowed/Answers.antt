use Rattle.std.proofs.Common.{rules}
use Rattle.references.proofs.Allowing.{named-is-allowed, others-are-allowed}
use Rattle.references.proofs.allowed.type_allowed.Goals as goal

pub returns-in-7 : goal.returns-in-7
returns-in-7 c text = c.func_allowed.ensures text

pub returns-in-10 : goal.returns-in-10
returns-in-10 c text =
    named-is-allowed text c.args.rows.now c.args.t (c.requires.1) c.kind_number.ensures c.in-10.is c.type_word.ensures (c.may_name.ensures text)

pub returns-in_default : goal.returns-in_default
returns-in_default c text =
    others-are-allowed text c.args.rows.now c.args.t (c.requires.1) c.kind_number.ensures (search rules) (search rules) (c.refs_pass.ensures text)
