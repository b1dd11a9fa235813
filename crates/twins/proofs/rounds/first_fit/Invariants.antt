-- `first_fit` meets its contract. The invariant: no type from the link's on, and before t, agrees with t, and the link leads to a type of its bucket.
use Rattle.objects.specs.Rows.{table_of}
use Rattle.twins.proofs.LinkLaws.{Unfit}
use Rattle.twins.proofs.rounds.first_fit.Given as goal

abbrev pub invariant-loop-c : goal.invariant-loop-c
invariant-loop-c l = Unfit (table_of l.text l.rows) l.labels l.t.0 l.c

abbrev pub decreases-loop-c : goal.decreases-loop-c
decreases-loop-c l = l.c
