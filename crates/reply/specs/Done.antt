-- What the code gives back for each outcome, and what it makes of the answer buffer.
use Rattle.std.specs.Prelude.{Result, Ok, Err, ◌≡◌, cond, ℕ, ◌<◌, ◌^◌, ltb, ℤ, pos, length}
use Rattle.objects.specs.Lists.{Bytes}
use Rattle.objects.specs.Table.{Table}
use Rattle.rules.specs.Question.{Question}
use Rattle.rules.specs.Answer.{answer, answer_bytes}
use Rattle.rules.specs.Asked.{Outcome, refuse, say, fitted, refusal, written}
use Rattle.objects.specs.Refusals.{reason_number}
use Rattle.reply.specs.declared.Unsaid.{Unsaid}

-- what is given back: a refusal with its line, the length of the answer that stands in front of the buffer, or that of one for which it is too short
pub data Done : Type 0 where
  Refused : (n line : ℕ) → Done
  Said : (n : ℕ) → Done
  Long : (n : ℕ) → Done

-- a refusal by the papers' number
unfoldable pub done_meant : Result ℕ Unsaid → Done
done_meant (Ok n) = Done.Said n
done_meant (Err (Unsaid.Refused r)) = Done.Refused (reason_number r.reason) r.line
done_meant (Err (Unsaid.Long n)) = Done.Long n

-- the answer stands in front of the buffer, or is too long for it
abbrev pub done_said : ℕ → ℕ → Done
done_said room n = cond (ltb room n) (Done.Long n) (Done.Said n)

unfoldable pub done_of : ℕ → Outcome → Done
done_of room (refuse n line) = Done.Refused n line
done_of room (say bytes) = done_said room (length bytes)

-- Of what is due, whatever the room: the code gave back r and left the buffer so.
pub record Does (o : Outcome) (r : Result ℕ Unsaid) (before after : Bytes) : Type 0 where
  pub told : done_meant r ≡ done_of (length before) o
  pub answer : after ≡ written (fitted (length before) o) before

-- the answer to a question
unfoldable pub due : Table → Question → Outcome
due T q = say (answer_bytes (answer T q))

-- ---- the number of a call

-- "the answer's length, or minus (refusal × 65,536 + line)"; an answer that is too long is 13
unfoldable pub number_read : Result ℕ Unsaid → ℤ
number_read (Err (Unsaid.Refused r)) = refusal (reason_number r.reason) r.line
number_read (Ok n) = pos n
number_read (Err (Unsaid.Long n)) = refusal 13 0

-- a length that an i64 holds
unfoldable pub Fits : Result ℕ Unsaid → Type 0
Fits (Err (Unsaid.Refused r)) = Unit {0}
Fits (Ok n) = n < 2 ^ 63
Fits (Err (Unsaid.Long n)) = Unit {0}
