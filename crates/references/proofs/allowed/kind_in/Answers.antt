use Rattle.references.proofs.Allowing.{kind-there, kind-lacking}
use Rattle.references.proofs.allowed.kind_in.Goals as goal

pub returns-then-t-type_count : goal.returns-then-t-type_count
returns-then-t-type_count c text =
    kind-there text c.args.rows.now c.args.t c.type_count.ensures c.if-t-type_count.true c.kind_number.ensures

pub returns-else-t-type_count : goal.returns-else-t-type_count
returns-else-t-type_count c text = kind-lacking text c.args.rows.now c.args.t c.type_count.ensures c.if-t-type_count.false
