use Rattle.references.proofs.Allowing.{smaller-refers}
use Rattle.references.proofs.elements.element_allowed.Goals as goal

pub returns-then-e-t : goal.returns-then-e-t
returns-then-e-t c text = smaller-refers text c.args.rows.now c.args.t c.args.e c.requires.1 c.if-e-t.true c.kind_word.ensures
