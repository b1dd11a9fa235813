use mathlib.Core.Path.{sym, ◌∙◌}
use native.Mathlib.Omega.{arith}
use Rattle.pair_marks.proofs.JoinLaws.{label-old, label-other, changed-more, changed-all}
use Rattle.pair_marks.proofs.classes.relabel.Goals as goal
use Rattle.pair_marks.proofs.classes.relabel.Goals.{then-c-old, else-c-old}

pub loop-label-preserved : goal.loop-label-preserved
loop-label-preserved c =
    changed-more c.args.new c.args.old c.args.labels.now c.loop-label.labels c.loop-label.label-index c.if-c-old.label (omega arith)
    (elim c.if-c-old.branch [ then-c-old w ↦ w.label-is ∙ sym (label-old _ _ _ w.if-c-old.true) | else-c-old w ↦ w.label-is ∙ sym (label-other _ _ _ w.if-c-old.false) ])
    c.loop-label.invariant

pub returns : goal.returns
returns c = changed-all _ _ _ _ c.loop-label.label-index c.loop-label.auto.labels (omega arith) c.loop-label.invariant
