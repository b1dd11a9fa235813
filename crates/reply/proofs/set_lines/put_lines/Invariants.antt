-- `put_lines` meets its contract: what is written and what is still to be are the whole.
use mathlib.Core.Path.{◌≡◌}
use Prim.Native.Nat.{◌+◌}
use lib.ListN.{length, drop}
use Rattle.print.specs.Written.{written}
use Rattle.reply.specs.SetLines.{sel_lines}
use Rattle.reply.proofs.set_lines.put_lines.Given as goal

abbrev pub invariant-loop-k : goal.invariant-loop-k
invariant-loop-k l =
    let lines = sel_lines l.rows l.walk l.hits in
    (written l.initial.answer l.at (lines l.names) ≡ written l.answer l.end (lines (drop l.k-index l.names)))
    × (l.end + length (lines (drop l.k-index l.names)) ≡ l.at + length (lines l.names))
    × (length l.answer ≡ length l.initial.answer) × (length l.numbers ≡ length l.initial.numbers)
