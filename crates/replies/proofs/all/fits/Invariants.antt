-- `fits` meets its contract and ends: what is spent so far and what is still due are all.
use mathlib.Core.Path.{◌≡◌}
use Prim.Native.Nat.{◌+◌, ◌-◌, ◌≤◌}
use lib.ListN.{length}
use Rattle.objects.specs.Lists.{flat}
use Rattle.objects.specs.Rows.{table_of}
use Rattle.rules.specs.AskedAll.{question_lines, reply_bytes}
use Rattle.input.specs.Parts.{questions_at}
use Rattle.answer.specs.Lent.{Lent}
use Rattle.replies.proofs.all.fits.Given as goal

abbrev pub invariant-loop-end : goal.invariant-loop-end
invariant-loop-end l =
    (l.marks ≡ l.initial.marks) × (length l.walk ≡ length l.initial.walk) × (length l.hits ≡ length l.initial.hits) × (length l.words ≡ length l.initial.words) × Lent l.rows l.walk l.hits l.words × (l.at ≤ length l.questions)
    × (length (flat (reply_bytes (table_of l.text l.rows)) (question_lines l.questions)) + l.left ≡ length (flat (reply_bytes (table_of l.text l.rows)) (questions_at l.questions l.at)) + l.room)

abbrev pub decreases-loop-end : goal.decreases-loop-end
decreases-loop-end l = length l.questions - l.at
