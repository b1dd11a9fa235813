-- `settle` meets its contract. The invariant: identical types have one label.
use mathlib.Core.Path.{◌≡◌}
use lib.ListN.{length}
use Rattle.objects.specs.Rows.{table_of}
use Rattle.twins.specs.Labels.{Coarse, slack}
use Rattle.twins.proofs.settle.Given as goal

abbrev pub invariant-loop-n : goal.invariant-loop-n
invariant-loop-n l =
    (length l.labels ≡ length l.initial.labels) × (length l.fresh ≡ length l.initial.fresh) × Coarse (table_of l.text l.rows) l.labels

abbrev pub decreases-loop-n : goal.decreases-loop-n
decreases-loop-n l = slack l.labels l.n
