use mathlib.Core.Path.{◌≡◌}
use lib.ListN.{drop}
use Rattle.objects.specs.Lists.{Bytes, every}
use Rattle.objects.specs.Rows.{table_of}
use Rattle.objects.specs.Table.{type_key}
use Rattle.rules.specs.Checks.{may_refer}
use Rattle.references.proofs.elements.elements_allowed.Given as goal

abbrev pub invariant-loop-e : goal.invariant-loop-e
invariant-loop-e l =
    (text : Bytes) → every (λ w. may_refer (table_of text l.rows) l.t (type_key w)) l.words
    ≡ every (λ w. may_refer (table_of text l.rows) l.t (type_key w)) (drop l.e-index l.words)
