-- Many questions in one call: the answers one after the other, as `asked` gives them to each question alone (crate promises, `all-as-each`).
use Rattle.std.specs.Prelude.{cond, List, [], ◌∷◌, ℕ, length}
use Rattle.objects.specs.Bounds.{Bounds, bounds}
use Rattle.objects.specs.Lists.{Bytes, flat, empty}
use Rattle.objects.specs.Table.{Table}
use Rattle.text.specs.Bytes.{ascii, decimal}
use Rattle.text.specs.Lines.{pieces}
use Rattle.rules.specs.Load.{load_within}
use Rattle.rules.specs.Answer.{line_bytes}
use Rattle.rules.specs.Asked.{Outcome, refuse, say, fitted, replied, on_table, Asked, given}

-- "The last question may lack its newline": what stands behind the last newline is a question unless it is empty
abbrev pub questions_of : List Bytes → List Bytes
questions_of [] = []
questions_of (last ∷ []) = cond (empty last) [] (last ∷ [])
questions_of (q ∷ next ∷ rest) = q ∷ questions_of (next ∷ rest)

-- the questions of a text, a line each
unfoldable pub question_lines : Bytes → List Bytes
question_lines questions = questions_of (pieces questions)

-- the line of a refusal
abbrev pub refused_bytes : ℕ → ℕ → Bytes
refused_bytes n line = line_bytes (ascii "refused") (decimal n ∷ decimal line ∷ [])

-- "the answers .. or `refused` number line"
abbrev pub printed : Outcome → Bytes
printed (refuse n line) = refused_bytes n line
printed (say bytes) = bytes

-- what stands for one question: its answer, or the line of its refusal
unfoldable pub reply_bytes : Table → Bytes → Bytes
reply_bytes T question = printed (replied question T)

-- what stands for all
abbrev pub replied_all : Bytes → Table → Outcome
replied_all questions T = say (flat (reply_bytes T) (question_lines questions))

-- refusals of the table, and 13 if all of it is longer than the buffer
unfoldable pub outcome_all_within : Bounds → Bytes → Bytes → ℕ → Outcome
outcome_all_within b table questions room = fitted room (on_table (replied_all questions) (load_within b table))

abbrev pub outcome_all : Bytes → Bytes → ℕ → Outcome
outcome_all table questions room = outcome_all_within bounds table questions room

unfoldable pub asked_all_within : Bounds → Bytes → Bytes → Bytes → List ℕ → Asked
asked_all_within b table questions buffer work = given (outcome_all_within b table questions (length buffer)) buffer work

abbrev pub asked_all : Bytes → Bytes → Bytes → List ℕ → Asked
asked_all table questions buffer work = asked_all_within bounds table questions buffer work
