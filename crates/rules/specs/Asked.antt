-- What one call gives: the number, the answer buffer and the work area at exit.
use Rattle.std.specs.Prelude.{Bool, false, cond, not, List, ◌++◌, ℕ, ◌+◌, ◌*◌, ltb, ℤ, pos, neg_ℤ, length, drop, replicate}
use Rattle.std.proofs.Math.Option.{Option, none, some}
use Rattle.objects.specs.Bounds.{work_words, refusal_unit, Bounds, bounds}
use Rattle.objects.specs.Lists.{Bytes}
use Rattle.objects.specs.Table.{Table, is_iface, kind_at}
use Rattle.rules.specs.Load.{Loaded, refused, loaded, load_within}
use Rattle.rules.specs.Question.{Question, ask_s, ask_m, ask_n, ask_i, ask_c, ask_v, question_of}
use Rattle.rules.specs.Answer.{answer, answer_bytes}

-- a refusal with its line, "line 0 where no line is named", or the bytes of an answer
pub data Outcome : Type 0 where
  refuse : (n line : ℕ) → Outcome
  say : Bytes → Outcome

-- 13: "The answer is longer than the answer buffer."
abbrev pub fitted : ℕ → Outcome → Outcome
fitted room (refuse n line) = refuse n line
fitted room (say bytes) = cond (ltb room (length bytes)) (refuse 13 0) (say bytes)

-- 12: "The second type of an N question is not itself of kind iface."
abbrev pub wrong_second : Table → Question → Bool
wrong_second T (ask_s t a pkg name) = false
wrong_second T (ask_m t) = false
wrong_second T (ask_c t) = false
wrong_second T (ask_n t i s) = not (is_iface (kind_at T i))
wrong_second T (ask_i x y) = false
wrong_second T ask_v = false

-- 11, 12
abbrev pub replied_to : Table → Option Question → Outcome
replied_to T none = refuse 11 0
replied_to T (some q) = cond (wrong_second T q) (refuse 12 0) (say (answer_bytes (answer T q)))

-- what is said to a question line, whatever the room
abbrev pub replied : Bytes → Table → Outcome
replied question T = replied_to T (question_of T question)

-- the refusal of a table, or what is said of it
unfoldable pub on_table : (Table → Outcome) → Loaded → Outcome
on_table said (refused n line) = refuse n line
on_table said (loaded T) = said T

-- refusals 2 to 13, "in this order"
unfoldable pub outcome_within : Bounds → Bytes → Bytes → ℕ → Outcome
outcome_within b table question room = fitted room (on_table (replied question) (load_within b table))

abbrev pub outcome : Bytes → Bytes → ℕ → Outcome
outcome table question room = outcome_within bounds table question room

-- "the answer's length, or minus (refusal × 65,536 + line)"
unfoldable pub refusal : ℕ → ℕ → ℤ
refusal n line = neg_ℤ (pos (n * refusal_unit + line))

unfoldable pub number_of : Outcome → ℤ
number_of (refuse n line) = refusal n line
number_of (say bytes) = pos (length bytes)

-- "An answer fills the front of the answer buffer and the rest is unchanged; a refusal changes none of it."
unfoldable pub written : Outcome → Bytes → Bytes
written (refuse n line) buffer = buffer
written (say bytes) buffer = bytes ++ drop (length bytes) buffer

pub record Asked : Type 0 where
  pub number : ℤ
  pub answer : Bytes
  pub work : List ℕ

-- 1: "The work area has fewer words than the number the team fixes". "The work area is zero on every return except after refusal 1, which leaves it unchanged."
abbrev pub given : Outcome → Bytes → List ℕ → Asked
given o buffer work =
    cond (ltb (length work) work_words)
    (record { number = refusal 1 0; answer = buffer; work = work })
    (record { number = number_of o; answer = written o buffer; work = replicate (length work) 0 })

unfoldable pub asked_within : Bounds → Bytes → Bytes → Bytes → List ℕ → Asked
asked_within b table question buffer work = given (outcome_within b table question (length buffer)) buffer work

abbrev pub asked : Bytes → Bytes → Bytes → List ℕ → Asked
asked table question buffer work = asked_within bounds table question buffer work
