-- `clashes::first_line` meets its contract. The invariant: what is found under t is found from its member i on, those before ascend in an interface, and
-- they are marked elsewhere.
use mathlib.Core.Path.{◌≡◌}
use lib.ListN.{length}
use Rattle.objects.specs.Table.{kind_at}
use Rattle.objects.specs.Rows.{table_of}
use Rattle.rules.specs.Checks.{clashing}
use Rattle.rules.specs.Stages.{first_item, lines_under}
use Rattle.rules.proofs.ItemLaws.{members_left}
use Rattle.clashes.specs.Known.{Rising}
use Rattle.clashes.specs.Marks.{Grows, Seen}
use Rattle.clashes.proofs.first_line.Given as goal

abbrev pub invariant-loop-i : goal.invariant-loop-i
invariant-loop-i l =
    (first_item (table_of l.text l.rows) (clashing (table_of l.text l.rows)) (lines_under l.t (kind_at (table_of l.text l.rows) l.t))
    ≡ first_item (table_of l.text l.rows) (clashing (table_of l.text l.rows)) (members_left l.t (kind_at (table_of l.text l.rows) l.t) l.i))
    × Rising l.text l.rows l.t l.i
    × (length l.marks ≡ length l.initial.marks)
    × Grows l.initial.marks l.marks
    × Seen l.text l.rows l.marks l.t l.i
