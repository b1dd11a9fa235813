-- `fill` meets its contract and ends: at each turn the place lies further behind. The marks are clear at each turn, and the scratch may be lent again.
use mathlib.Core.Path.{◌≡◌}
use Prim.Native.Nat.{◌-◌}
use lib.ListN.{length}
use Rattle.objects.specs.Rows.{table_of}
use Rattle.answer.specs.Lent.{Lent}
use Rattle.replies.specs.Replies.{Filling}
use Rattle.replies.proofs.fill.fill.Given as goal

abbrev pub invariant-loop-end : goal.invariant-loop-end
invariant-loop-end l =
    (l.marks ≡ l.initial.marks) × (length l.walk ≡ length l.initial.walk) × (length l.hits ≡ length l.initial.hits) × (length l.words ≡ length l.initial.words) × Lent l.rows l.walk l.hits l.words × Filling (table_of l.text l.rows) l.questions l.initial.out l.at l.n l.out

abbrev pub decreases-loop-end : goal.decreases-loop-end
decreases-loop-end l = length l.questions - l.at
