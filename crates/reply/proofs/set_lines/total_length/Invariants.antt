-- `total_length` meets its contract: what is counted and what is left are the whole.
use mathlib.Core.Path.{◌≡◌}
use Prim.Native.Nat.{◌+◌, ◌*◌, ◌≤◌}
use lib.ListN.{length, drop}
use Rattle.print.specs.Written.{max_line}
use Rattle.reply.specs.SetLines.{sel_lines}
use Rattle.reply.proofs.set_lines.total_length.Given as goal

abbrev pub invariant-loop-k : goal.invariant-loop-k
invariant-loop-k l =
    let lines = sel_lines l.rows l.walk l.hits in
    (length (lines l.names) ≡ l.total + length (lines (drop l.k-index l.names))) × (l.total ≤ l.k-index * max_line) × (length l.numbers ≡ length l.initial.numbers)
