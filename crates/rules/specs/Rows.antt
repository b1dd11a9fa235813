-- Rows of worked examples: a text and what is due for it, and the tests that rows are right. The prover computes them (proofs/Computed.antt).
use Rattle.std.specs.Prelude.{Bool, cond, List, [], ◌∷◌, ◌++◌, ℕ, ◌-◌, eqb, ℤ, pos, length, replicate}
use Prim.Native.Char.{code}
use Prim.Native.String.{String, [] as []ˢ, ◌∷◌ as ◌∷ˢ◌}
use Rattle.objects.specs.Bounds.{work_words, Bounds}
use Rattle.objects.specs.Lists.{Bytes, every}
use Rattle.text.specs.Bytes.{ascii, same_bytes, is_name, is_blank, is_path, is_tag, exported, value_from, is_numeral, number, digits_on, decimal}
use Rattle.text.specs.Lines.{split, pieces, fields}
use Rattle.objects.specs.Table.{plus_package, plus_type, plus_member, kind_at, path_of, under, bare, pointer_at, iface_under, named_pointer, all_methods}
use Rattle.rules.specs.Members.{identity_from, identity_of, same_id, id_bytes}
use Rattle.rules.specs.Forms.{kind_form, line_form, line_of}
use Rattle.rules.specs.Chains.{leads}
use Rattle.rules.specs.Identity.{real_type, own_number, parts, mismatch, pair_parts, identical}
use Rattle.rules.specs.Checks.{path_items, unordered, items_from, line_of_item, lacking, forbidden, clashing, containing}
use Rattle.rules.specs.Stages.{first_line}
use Rattle.rules.specs.Load.{Loaded, added, lines_from, staged, checked, load_within}
use Rattle.rules.specs.Comparable.{comparable_kind, comparable_in, comparable}
use Rattle.rules.specs.Ways.{owned, onward, walks, ways, shortest_from, shortest, searched, select}
use Rattle.rules.specs.MethodSet.{method_flag, callable, only_method, method_names, method_set}
use Rattle.rules.specs.Missing.{unmet, missing}
use Rattle.rules.specs.Question.{question_form, question_of}
use Rattle.rules.specs.Answer.{answer, answer_bytes}
use Rattle.rules.specs.Asked.{Asked, on_table, outcome_within, refusal, number_of, written, asked_within, asked}
use Rattle.rules.specs.AskedAll.{question_lines, reply_bytes, outcome_all_within, asked_all_within, asked_all}
use Rattle.rules.specs.Typeask.{input_of, printed_one, typeask_within, typeask}

-- ---- texts

-- "Spaces below stand for tabs."
abbrev pub spaced : String → Bytes
spaced []ˢ = []
spaced (c ∷ˢ s) = cond (eqb (code c) 32) 9 (code c) ∷ spaced s

-- a line, and what follows it
infixr 66 ◌⏎◌
abbrev pub ◌⏎◌ : String → Bytes → Bytes
s ⏎ rest = spaced s ++ (10 ∷ rest)

-- a table of these lines
abbrev pub table : Bytes → Bytes
table lines = "typetable 1" ⏎ lines

-- Everything that is computed: what is opened here is open where `called`, `called_all` and `prints` are.
unfoldable opened : Bytes → Bytes
unfolding is_name is_blank is_path is_tag exported value_from is_numeral number digits_on decimal split pieces fields kind_at path_of under bare pointer_at iface_under named_pointer all_methods identity_from identity_of same_id id_bytes kind_form line_form line_of leads real_type own_number parts mismatch pair_parts identical items_from line_of_item lacking forbidden clashing containing path_items unordered added plus_package plus_type plus_member lines_from first_line staged checked load_within comparable_kind comparable_in comparable owned onward walks ways shortest_from shortest searched select method_flag callable only_method method_names method_set unmet missing question_form question_of answer answer_bytes on_table outcome_within refusal number_of written asked_within question_lines reply_bytes outcome_all_within asked_all_within input_of printed_one typeask_within
opened b = b

-- ---- a call

-- a table, a question, and the answer that is due
pub record Case : Type 0 where
  pub table : Bytes
  pub question : Bytes
  pub due : Bytes

abbrev pub case : Bytes → String → Bytes → Case
case table question due = record { table = table; question = spaced question; due = due }

-- a buffer of 32 dots, and a work area that is not clear
abbrev pub buffer : Bytes
buffer = replicate 32 46

-- loading within any bounds
unfoldable pub loading : Bounds → Bytes → Loaded
unfolding opened
loading b text = load_within b text

-- the call, with all that it takes
unfoldable pub calling : Bytes → Bytes → Bytes → List ℕ → Asked
unfolding opened
calling table question answer work = asked table question answer work

-- all that the call gives: number, buffer, work area
unfoldable pub called : Case → Asked
unfolding calling
called c = calling c.table c.question buffer (replicate work_words 7)

-- what is left behind: a number, bytes in front of what is left of a buffer of so many dots, a clear work area
abbrev leaves : ℤ → Bytes → ℕ → Asked
leaves number bytes room = record { number = number; answer = bytes ++ replicate (room - length bytes) 46; work = replicate work_words 0 }

-- what is due: the answer's length, and the answer
unfoldable pub owed : Case → Asked
owed c = leaves (pos (length c.due)) c.due 32

-- ---- a call with many questions

-- a table, the text of the questions, the length of the buffer, and what is due: the number, and the bytes in front of the buffer
pub record Batch : Type 0 where
  pub table : Bytes
  pub questions : Bytes
  pub room : ℕ
  pub number : ℤ
  pub due : Bytes

abbrev pub batch : Bytes → Bytes → ℕ → ℤ → Bytes → Batch
batch table questions room number due = record { table = table; questions = questions; room = room; number = number; due = due }

-- all that the call gives, of a buffer of dots and a work area that is not clear
unfoldable pub called_all : Batch → Asked
unfolding opened
called_all b = asked_all b.table b.questions (replicate b.room 46) (replicate work_words 7)

unfoldable pub owed_all : Batch → Asked
owed_all b = leaves b.number b.due b.room

-- ---- the program

-- all that the program reads, and all that it prints
pub record Run : Type 0 where
  pub input : Bytes
  pub output : Bytes

-- a table's text, questions behind a line `Q`, and the output
abbrev pub run : Bytes → Bytes → Bytes → Run
run table questions output = record { input = table ++ ascii "Q\n" ++ questions; output = output }

abbrev pub whole : Bytes → Bytes → Run
whole input output = record { input = input; output = output }

-- a table that is refused, without questions: "once and alone for a refused table, even without questions"
abbrev pub bad : Bytes → Bytes → Run
bad table output = run table [] output

unfoldable pub prints : Run → Bool
unfolding opened
prints r = same_bytes (typeask r.input) r.output

unfoldable pub all_print : List Run → Bool
unfolding prints
all_print rs = every prints rs
