use Rattle.references.proofs.lacking.Goals as goal

pub returns : goal.returns
returns c text = c.first_line.ensures text
