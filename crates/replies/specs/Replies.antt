-- What the answers to many questions are made of, and what a call with them ends with.
use Rattle.std.specs.Prelude.{Result, ◌≡◌, List, [], ◌∷◌, ◌++◌, ℕ, ◌+◌, ◌^◌, ◌≤◌, ◌<◌, length, drop}
use Rattle.objects.specs.Lists.{Bytes, flat}
use Rattle.objects.specs.Table.{Table}
use Rattle.rules.specs.Asked.{Outcome, fitted, replied, number_of, written}
use Rattle.rules.specs.AskedAll.{question_lines, reply_bytes, replied_all}
use Rattle.input.specs.Parts.{questions_at}
use Rattle.reply.specs.declared.Unsaid.{Unsaid}
use Rattle.reply.specs.Done.{number_read, Fits}
use Rattle.replies.specs.declared.Asking.{Asking}
use Rattle.replies.specs.declared.Filled.{Filled}

-- the first of the questions that are left has no room behind n bytes
unfoldable pub Full : Table → List Bytes → ℕ → ℕ → Type 0
Full T [] n room = Unit {0}
Full T (q ∷ qs) n room = room < n + length (reply_bytes T q)

-- Some of the questions are answered, in n bytes in front of the buffer; those from a place on are left.
pub record Filling (T : Table) (questions before : Bytes) (at n : ℕ) (out : Bytes) : Type 0 where
  pub done : List Bytes
  pub lines : question_lines questions ≡ done ++ questions_at questions at
  pub inside : at ≤ length questions
  pub count : n ≡ length (flat (reply_bytes T) done)
  pub room : n ≤ length before
  pub answers : out ≡ flat (reply_bytes T) done ++ drop n before

-- As many as have room.
pub record Fills (T : Table) (questions before : Bytes) (r : Filled) (after : Bytes) : Type 0 where
  pub filling : Filling T questions before r.at r.n after
  pub full : Full T (questions_at questions r.at) r.n (length before)

-- what is due to a question line, or to a text of them
unfoldable pub said_of : Asking → Bytes → Table → Outcome
said_of Asking.All questions T = replied_all questions T
said_of Asking.One question T = replied question T

-- Of what is due, whatever the room: the number that a call gives for r, and the buffer.
pub record Ends (o : Outcome) (r : Result ℕ Unsaid) (before after : Bytes) : Type 0 where
  pub number : number_read r ≡ number_of (fitted (length before) o)
  pub answer : after ≡ written (fitted (length before) o) before
  pub holds : length before < 2 ^ 63 → Fits r
