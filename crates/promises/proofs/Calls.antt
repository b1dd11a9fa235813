-- What calls give, by what is due: one law for the call with a question and the one with many. What is said to a question line is the same in both (`replied`).
use mathlib.Core.Path.{◌≡◌, refl, ap, ◌∙◌}
use Prim.Native.Nat.{ℕ, ◌≤◌, ◌<◌}
use lib.ListN.{length}
use borrow.Author.Tests.{lt-ltb, le-ltb}
use Rattle.objects.specs.Bounds.{work_words, max_text, program_answer}
use Rattle.objects.specs.Lists.{Bytes, In, flat}
use Rattle.objects.specs.Table.{Table}
use Rattle.objects.proofs.ListLaws.{flat-In-ext}
use Rattle.text.specs.Lines.{pieces}
use Rattle.rules.specs.Load.{refused, loaded, load}
use Rattle.rules.specs.Question.{question_of}
use Rattle.rules.specs.Asked.{Outcome, refuse, say, fitted, replied, on_table, outcome_within, outcome, number_of, written, given, asked_within}
use Rattle.rules.specs.AskedAll.{question_lines, printed, reply_bytes, replied_all, outcome_all_within, outcome_all, asked_all_within}
use Rattle.rules.specs.Typeask.{Input, input_of, printed_one, typeask_within, typeask}
use Rattle.rules.proofs.Numbers.{Bounded, bounded-number, bounded-fits, outcome-bounded, outcome-all-bounded, OfQuestion, question-refused}
use Rattle.growth.specs.Calls.{Lent, called}
use Rattle.growth.proofs.Promised.{given-says}
use Rattle.promises.specs.Demands.{refuses_with, CallGives, called_all, StandsFor, by_answer, by-refusal, AllAsEach}

-- ---- every call

pub gives : (o : Outcome) (c : Lent) → Bounded (length c.buffer) o → CallGives o c (given o c.buffer c.work)
unfolding number_of written
gives o c b = record {
  too_few_words = λ h. rw (lt-ltb (length c.work) work_words h);
  refuses = λ n line h e. let k = bounded-number (length c.buffer) o b n line e in (rw (le-ltb (length c.work) work_words h, e), k.0, k.1, k.2);
  answers = λ bytes h e. (given-says o bytes c e h, bounded-fits (length c.buffer) o b bytes e);
}

pub call-gives : (table : Bytes) (c : Lent) → CallGives (outcome table c.line (length c.buffer)) c (called table c)
unfolding asked_within
call-gives table c = gives (outcome table c.line (length c.buffer)) c (outcome-bounded table c.line (length c.buffer))

pub all-gives : (table : Bytes) (c : Lent) → CallGives (outcome_all table c.line (length c.buffer)) c (called_all table c)
unfolding asked_all_within
all-gives table c = gives (outcome_all table c.line (length c.buffer)) c (outcome-all-bounded table c.line (length c.buffer))

-- ---- a table that loads

pub fitted-fits : (room : ℕ) (bytes : Bytes) → length bytes ≤ room → fitted room (say bytes) ≡ say bytes
fitted-fits room bytes h = rw (le-ltb room (length bytes) h)

pub fitted-long : (room : ℕ) (bytes : Bytes) → room < length bytes → fitted room (say bytes) ≡ refuse 13 0
fitted-long room bytes h = rw (lt-ltb room (length bytes) h)

module _ (text : Bytes) (T : Table) (loads : load text ≡ loaded T) where
  alone : (c : Lent) (line : Bytes) (o : Outcome) → c.line ≡ line → replied line T ≡ o → outcome text c.line (length c.buffer) ≡ fitted (length c.buffer) o
  unfolding outcome_within on_table
  alone c line o l e = rw (loads, on_table, l, e)

  together : (c : Lent) → outcome_all text c.line (length c.buffer) ≡ fitted (length c.buffer) (replied_all c.line T)
  unfolding outcome_all_within on_table
  together c = rw (loads, on_table)

  stands-for : (line : Bytes) → StandsFor text line (reply_bytes T line)
  unfolding reply_bytes
  stands-for line = go (replied line T) refl (question-refused T (question_of T line))
    where
      go : (o : Outcome) → replied line T ≡ o → OfQuestion o → StandsFor text line (printed o)
      go (say bytes) e q = by_answer bytes (λ c l w room. ((call-gives text c).answers bytes w (alone c line (say bytes) l e ∙ fitted-fits (length c.buffer) bytes room)).0)
      go (refuse n at) e q = rw q.1 (by-refusal n q.0 (λ c l w. ((call-gives text c).refuses n 0 w (alone c line (refuse n 0) l (e ∙ ap (refuse n) q.1))).0))

  pub as-each : AllAsEach text (reply_bytes T)
  as-each = record {
    each = stands-for;
    all = λ c w room. ((all-gives text c).answers (all c.line) w (together c ∙ fitted-fits (length c.buffer) (all c.line) room)).0;
    too_long = λ c w long. ((all-gives text c).refuses 13 0 w (together c ∙ fitted-long (length c.buffer) (all c.line) long)).0;
  }
    where
      all : Bytes → Bytes
      all questions = flat (reply_bytes T) (question_lines questions)

-- ---- a table that is refused

pub table-refused : (text : Bytes) (n line : ℕ) → load text ≡ refused n line → (c : Lent) → (called_all text c ≡ called text c) × (work_words ≤ length c.work → called text c ≡ refuses_with n line c)
unfolding asked_within asked_all_within outcome_within outcome_all_within on_table
table-refused text n line e c = (rw (e, on_table), λ w. ((call-gives text c).refuses n line w (rw (e, on_table))).0)

-- ---- the program

fitted-same : (room : ℕ) (o : Outcome) → length (printed o) ≤ room → printed (fitted room o) ≡ printed o
fitted-same room (refuse n line) h = refl
fitted-same room (say bytes) h = ap printed (fitted-fits room bytes h)

pub prints-each : (input : Bytes) (i : Input) (T : Table) → input_of (pieces input) ≡ i → length input ≤ max_text → load i.table ≡ loaded T
    → ((q : Bytes) → In q i.questions → length (reply_bytes T q) ≤ program_answer) → typeask input ≡ flat (reply_bytes T) i.questions
unfolding typeask_within printed_one reply_bytes
prints-each input i T e fits loads short =
    rw (le-ltb max_text (length input) fits, e, loads) (flat-In-ext (printed_one T) (reply_bytes T) i.questions (λ q there. fitted-same program_answer (replied q T) (short q there)))
