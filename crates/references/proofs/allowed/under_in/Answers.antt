use Rattle.references.proofs.Allowing.{under-named, under-other}
use Rattle.references.proofs.allowed.under_in.Goals as goal

pub returns-then-kind_in-eq-NAMED : goal.returns-then-kind_in-eq-NAMED
returns-then-kind_in-eq-NAMED c text =
    under-named text c.args.rows.now c.args.t (c.kind_in.ensures text) c.if-kind_in-eq-NAMED.true c.type_word.ensures

pub returns-else-kind_in-eq-NAMED : goal.returns-else-kind_in-eq-NAMED
returns-else-kind_in-eq-NAMED c text = under-other text c.args.rows.now c.args.t (c.kind_in.ensures text) c.if-kind_in-eq-NAMED.false
