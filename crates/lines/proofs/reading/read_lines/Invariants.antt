-- `lines::reading::read_lines` meets its contract.
use mathlib.Core.Path.{◌≡◌}
use Prim.Native.Nat.{◌-◌, ◌≤◌}
use lib.ListN.{length, drop}
use Rattle.objects.specs.Bounds.{bounds}
use Rattle.objects.specs.Rows.{table_of}
use Rattle.objects.specs.Laid.{Laid}
use Rattle.text.specs.Lines.{pieces}
use Rattle.rules.specs.Load.{lines_from}
use Rattle.lines.specs.Adding.{bytes_taken}
use Rattle.lines.proofs.reading.read_lines.Given as goal

abbrev pub invariant-loop-from : goal.invariant-loop-from
invariant-loop-from l =
    (lines_from bounds 2 (table_of l.text l.initial.rows) (pieces (drop l.from l.text)) ≡ lines_from bounds l.line (table_of l.text l.rows) (pieces (drop l.at l.text)))
    × Laid l.rows × (bytes_taken l.rows ≤ l.at) × (l.at ≤ length l.text) × (l.line ≤ l.at) × (length l.rows ≡ length l.initial.rows)

abbrev pub decreases-loop-from : goal.decreases-loop-from
decreases-loop-from l = length l.text - l.at
