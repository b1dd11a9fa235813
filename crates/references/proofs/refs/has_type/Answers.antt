use Rattle.references.proofs.Referring.{type-had}
use Rattle.references.proofs.refs.has_type.Goals as goal

pub returns : goal.returns
returns c text = type-had text c.args.rows.now c.args.t c.type_count.ensures
