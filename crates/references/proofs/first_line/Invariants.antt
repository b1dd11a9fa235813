use mathlib.Core.Path.{◌≡◌}
use Rattle.objects.specs.Lists.{Bytes}
use Rattle.objects.specs.Rows.{table_of}
use Rattle.rules.specs.Checks.{items}
use Rattle.rules.specs.Stages.{first_item}
use Rattle.rules.proofs.ItemLaws.{types_left}
use Rattle.references.proofs.first_line.Given as goal

abbrev pub invariant-loop-t : goal.invariant-loop-t
invariant-loop-t g l =
    (text : Bytes) → first_item (table_of text l.rows) (g.X.Test.fails (table_of text l.rows)) (items (table_of text l.rows))
    ≡ first_item (table_of text l.rows) (g.X.Test.fails (table_of text l.rows)) (types_left (table_of text l.rows) l.t)
