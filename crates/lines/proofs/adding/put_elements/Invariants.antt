-- `lines::adding::put_elements` meets its contract.
use mathlib.Core.Path.{◌≡◌}
use Prim.Native.Nat.{◌+◌, ◌≤◌}
use lib.ListN.{length}
use Rattle.objects.specs.Table.{kind_number}
use Rattle.objects.specs.Rows.{element_count, table_of}
use Rattle.objects.specs.Laid.{used, Laid}
use Rattle.text.specs.Cursors.{fields_left}
use Rattle.rules.specs.Load.{last_kind}
use Rattle.line_forms.specs.Steps.{all_read, elements_read}
use Rattle.lines.specs.Adding.{with_elements}
use Rattle.lines.proofs.adding.put_elements.Given as goal

abbrev pub invariant-loop-d : goal.invariant-loop-d
invariant-loop-d l =
    Laid l.rows × (kind_number (last_kind (table_of l.s l.rows)) ≡ 6)
    × (with_elements (table_of l.s l.initial.rows) (elements_read (fields_left l.s l.initial.d)) ≡ with_elements (table_of l.s l.rows) (elements_read (fields_left l.s l.d)))
    × (element_count l.rows + length (elements_read (fields_left l.s l.d)) ≡ element_count l.initial.rows + length (elements_read (fields_left l.s l.initial.d)))
    × (length l.rows ≡ length l.initial.rows)
    × (used l.rows + length (elements_read (fields_left l.s l.d)) ≤ length l.rows)
    × (all_read (fields_left l.s l.initial.d) ≡ all_read (fields_left l.s l.d))

abbrev pub decreases-loop-d : goal.decreases-loop-d
decreases-loop-d l = length (elements_read (fields_left l.s l.d))
