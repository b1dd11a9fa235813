use mathlib.Core.Path.{◌≡◌}
use Rattle.objects.specs.Lists.{Bytes}
use Rattle.objects.specs.Table.{kind_at}
use Rattle.objects.specs.Rows.{table_of}
use Rattle.rules.specs.Stages.{first_item, lines_under}
use Rattle.rules.proofs.ItemLaws.{members_left}
use Rattle.references.proofs.first_member_line.Given as goal

abbrev pub invariant-loop-i : goal.invariant-loop-i
invariant-loop-i g l =
    (text : Bytes) → first_item (table_of text l.rows) (g.X.Test.fails (table_of text l.rows)) (lines_under l.t (kind_at (table_of text l.rows) l.t))
    ≡ first_item (table_of text l.rows) (g.X.Test.fails (table_of text l.rows)) (members_left l.t (kind_at (table_of text l.rows) l.t) l.i)
