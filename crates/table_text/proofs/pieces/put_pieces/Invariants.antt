-- `put_pieces` meets its contract: whatever texts the pieces have, what is written and what is still to be written is the whole.
use mathlib.Core.Path.{◌≡◌}
use Prim.Native.Nat.{ℕ, ◌+◌}
use lib.ListN.{length}
use Rattle.objects.specs.Lists.{Bytes}
use Rattle.print.specs.Written.{written}
use Rattle.table_text.specs.Pieces.{Puts}
use Rattle.table_text.proofs.Loops.{left_from}
use Rattle.table_text.proofs.pieces.put_pieces.Given as goal

abbrev pub invariant-loop-j : goal.invariant-loop-j
invariant-loop-j g l =
    (length l.out ≡ length l.initial.out)
    × ((f : ℕ → Bytes) → Puts f l.first l.count (λ o i k r o'. goal.F-post g l.put o i k r o')
    → (written l.initial.out l.at (left_from f l.first l.count 0) ≡ written l.out l.i (left_from f l.first l.count l.j))
    × (l.i + length (left_from f l.first l.count l.j) ≡ l.at + length (left_from f l.first l.count 0)))
