use Rattle.references.proofs.Allowing.{bare-pointer, bare-other}
use Rattle.references.proofs.allowed.bare_in.Goals as goal

pub returns-then-kind_in-eq-POINTER : goal.returns-then-kind_in-eq-POINTER
returns-then-kind_in-eq-POINTER c text =
    bare-pointer text c.args.rows.now c.args.t (c.kind_in.ensures text) c.if-kind_in-eq-POINTER.true c.type_word.ensures

pub returns-else-kind_in-eq-POINTER : goal.returns-else-kind_in-eq-POINTER
returns-else-kind_in-eq-POINTER c text = bare-other text c.args.rows.now c.args.t (c.kind_in.ensures text) c.if-kind_in-eq-POINTER.false
