-- `clashes::first_of` meets its contract. The invariant: what is found in the table is found from type t on.
use mathlib.Core.Path.{◌≡◌}
use lib.ListN.{length}
use Rattle.objects.specs.Rows.{table_of}
use Rattle.rules.specs.Checks.{items, clashing}
use Rattle.rules.specs.Stages.{first_item}
use Rattle.rules.proofs.ItemLaws.{types_left}
use Rattle.clashes.specs.Marks.{Ready}
use Rattle.clashes.proofs.first_of.Given as goal

abbrev pub invariant-loop-t : goal.invariant-loop-t
invariant-loop-t l =
    (first_item (table_of l.text l.rows) (clashing (table_of l.text l.rows)) (items (table_of l.text l.rows))
    ≡ first_item (table_of l.text l.rows) (clashing (table_of l.text l.rows)) (types_left (table_of l.text l.rows) l.t))
    × (length l.marks ≡ length l.initial.marks)
    × (length l.done ≡ length l.initial.done)
    × Ready l.text l.rows l.marks l.done
