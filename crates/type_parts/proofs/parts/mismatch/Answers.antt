use Rattle.std.proofs.Common.{ap, not}
use mathlib.Core.Path.{sym, ◌∙◌}
use Rattle.type_parts.proofs.MatchLaws.{numbers-kin, numbers-mismatch, members-mismatch}
use Rattle.type_parts.proofs.parts.mismatch.Goals as goal
use Rattle.type_parts.proofs.parts.mismatch.Goals.{then-kin, else-kin}

-- past the test of kind and own number the two types are kin
pub called_alike-requires-clause-kin : goal.called_alike-requires-clause-kin
called_alike-requires-clause-kin c =
    numbers-kin c.args.text.now _ _ _ c.requires.x_bound.0 c.requires.x_bound.1 (sym c.kin.ensures ∙ c.if-kin.true)

pub returns : goal.returns
returns c =
    let hx = c.requires.x_bound.0 in
    let hy = c.requires.x_bound.1 in
    elim c.if-kin.branch [
      | then-kin w ↦ members-mismatch _ _ _ _ (numbers-kin c.args.text.now _ _ _ hx hy (sym c.kin.ensures ∙ w.if-kin.true)) _ (w.result-is ∙ w.called_alike.ensures)
      | else-kin w ↦ ap not (w.result-is ∙ w.if-kin.false) ∙ numbers-mismatch _ _ _ _ hx hy _ c.kin.ensures w.if-kin.false
    ]
