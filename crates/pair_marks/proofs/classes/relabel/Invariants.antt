use Rattle.pair_marks.proofs.JoinLaws.{Changed}
use Rattle.pair_marks.proofs.classes.relabel.Given as goal

abbrev pub invariant-loop-label : goal.invariant-loop-label
invariant-loop-label l = Changed l.new l.old l.initial.labels l.labels l.label-index
