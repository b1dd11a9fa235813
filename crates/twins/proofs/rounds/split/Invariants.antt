-- `split` meets its contract. The invariant: the types before `t` have their fresh labels and links, and the chains begin with the last of them.
use mathlib.Core.Path.{◌≡◌}
use lib.ListN.{length}
use Rattle.objects.specs.Rows.{table_of}
use Rattle.twins.specs.Labels.{Classed}
use Rattle.twins.specs.Chains.{Linked, Headed}
use Rattle.twins.proofs.rounds.split.Given as goal

abbrev pub invariant-loop-t : goal.invariant-loop-t
invariant-loop-t l =
    (length l.fresh ≡ length l.initial.fresh) × (length l.heads ≡ length l.initial.heads) × (length l.links ≡ length l.initial.links)
    × Classed (table_of l.text l.rows) l.labels l.fresh l.t × Linked (table_of l.text l.rows) l.labels l.links l.t × Headed (table_of l.text l.rows) l.labels l.heads l.t
