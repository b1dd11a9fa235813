-- What each step of the program says: the table opened, the next piece of what is due, where a piece stands in the whole.
use Rattle.std.specs.Prelude.{◌≡◌, Option, Some, None, Result, Ok, Err, [], ◌++◌, ℕ, ◌≤◌, length, take, drop}
use Rattle.objects.specs.Bounds.{max_text}
use Rattle.objects.specs.declared.refusals.Refusal.{Refusal}
use Rattle.objects.specs.Refusals.{reason_number}
use Rattle.objects.specs.Lists.{Bytes, flat}
use Rattle.objects.specs.Rows.{Words, table_of}
use Rattle.objects.specs.Table.{Table}
use Rattle.text.specs.Bytes.{ascii}
use Rattle.rules.specs.AskedAll.{question_lines, refused_bytes}
use Rattle.rules.specs.Library.{Library}
use Rattle.rules.specs.Typeask.{printed_one, typeask}
use Rattle.replies.specs.declared.Filled.{Filled}

-- the line of a refusal has at most 7 bytes for the word, a tab and 20 digits for each number, and a newline
abbrev pub refused_room : ℕ
refused_room = 64

-- what is printed for the questions of a text
unfoldable pub due : Table → Bytes → Bytes
due T questions = flat (printed_one T) (question_lines questions)

-- the first n bytes of the buffer are the text
pub record Shows (text out : Bytes) (n : ℕ) : Type 0 where
  pub fits : n ≤ length out
  pub shown : take n out ≡ text

-- What is due is what stands in front of the buffer, and what is due for the questions from a place on. No question is taken only where nothing is due.
pub record Prints (T : Table) (questions : Bytes) (r : Filled) (out : Bytes) : Type 0 where
  pub inside : r.at ≤ length questions
  pub fits : r.n ≤ length out
  pub parts : due T questions ≡ take r.n out ++ due T (drop r.at questions)
  pub none : r.at ≡ 0 → due T questions ≡ []

-- these bytes of the whole stand at this place of it
pub record Stands (whole : Bytes) (at : ℕ) (bytes : Bytes) : Type 0 where
  pub before : Bytes
  pub behind : Bytes
  pub place : length before ≡ at
  pub parts : whole ≡ before ++ (bytes ++ behind)

-- all that is due: a refusal, the answer to one V, or the answers to the questions behind `Q`
unfoldable pub opening_meant : Bytes → Words → Result (Option (ℕ × ℕ)) Refusal → Bytes
opening_meant input rows (Err r) = refused_bytes (reason_number r.reason) r.line
opening_meant input rows (Ok None) = due (table_of input rows) (ascii "V")
opening_meant input rows (Ok (Some (end, next))) = due (table_of (take end input) rows) (drop next input)

-- where the table loaded, its rows may be asked; an input with questions is not too long
abbrev pub opening_holds : Bytes → Words → Result (Option (ℕ × ℕ)) Refusal → Type 0
opening_holds input rows (Err r) = Unit {0}
opening_holds input rows (Ok None) = Library input rows
opening_holds input rows (Ok (Some (end, next))) = (end ≤ length input) × (next ≤ length input) × Library (take end input) rows × (length input ≤ max_text)

pub record Opens (input : Bytes) (r : Result (Option (ℕ × ℕ)) Refusal) (rows : Words) : Type 0 where
  pub says : typeask input ≡ opening_meant input rows r
  pub holds : opening_holds input rows r
