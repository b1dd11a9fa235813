-- `consolidate_multiples`: the records passed are of other types.
use mathlib.Core.Path.{◌≡◌}
use Rattle.multiples.proofs.MarkLaws.{Absent}
use Rattle.multiples.proofs.consolidate_multiples.Given as goal

abbrev pub invariant-loop-r : goal.invariant-loop-r
invariant-loop-r l = (l.level ≡ l.initial.level) × Absent l.initial.level l.r-index l.t
