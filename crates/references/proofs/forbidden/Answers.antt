use Rattle.references.proofs.forbidden.Goals as goal

pub returns : goal.returns
returns c text = c.first_line.ensures text
