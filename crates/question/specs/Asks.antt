-- What a question line that was read stands for, and what is known of it.
use Rattle.std.specs.Prelude.{◌≡◌, Bool, true, false, cond, not, ◌&&◌, List, ◌+◌, ◌≤◌, ◌<◌, eqb, leb, ltb, length}
use Rattle.std.proofs.Math.Option.{Option, none, some}
use Rattle.std.specs.declared.option.Option as code
use Rattle.std.specs.Prelude.{Some, None}
use Rattle.objects.specs.declared.PackageKey.{PackageKey}
use Rattle.objects.specs.Bounds.{max_question, max_name}
use Rattle.objects.specs.Lists.{Bytes}
use Rattle.objects.specs.Rows.{Words, type_count, package_count, bytes_at, package_meant}
use Rattle.objects.specs.Types.{number_read}
use Rattle.text.specs.Bytes.{is_name}
use Rattle.text.specs.Lines.{fields}
use Rattle.text.specs.Readers.{◌>>=◌, field, whole}
use Rattle.rules.specs.Question.{Question, ask_s, ask_m, ask_n, ask_i, ask_c, ask_v, question_form}
use Rattle.question.specs.declared.Ask.{Ask}

-- the question; none where the line has a wrong form
unfoldable pub asks_meant : Bytes → code.Option Ask → Option Question
asks_meant line (Some (Ask.S t a pkg at len)) = some (ask_s t a (package_meant pkg) (bytes_at line at len))
asks_meant line (Some (Ask.M t)) = some (ask_m t)
asks_meant line (Some (Ask.N t i s)) = some (ask_n t i s)
asks_meant line (Some (Ask.I x y)) = some (ask_i x y)
asks_meant line (Some (Ask.C t)) = some (ask_c t)
asks_meant line (Some Ask.V) = some ask_v
asks_meant line None = none

-- what stands behind the letter, as a whole line
unfoldable pub behind_letter : Bytes → List Bytes → Option Question
behind_letter l fs = whole (question_form l) fs

-- a line of at most 256 bytes and of the form of a question, whatever numbers the table has (11)
unfoldable pub form_of : Bytes → Option Question
form_of line = cond (leb (length line) max_question) (whole (do l ← field some; question_form l) (fields line)) none

-- the name of an S question stands in the line
unfoldable pub NameIn : Bytes → code.Option Ask → Type 0
NameIn line (Some (Ask.S t a pkg at len)) = (at + len ≤ length line) × (len ≤ max_name) × (is_name (bytes_at line at len) ≡ true)
NameIn line (Some (Ask.M t)) = Unit {0}
NameIn line (Some (Ask.N t i s)) = Unit {0}
NameIn line (Some (Ask.I x y)) = Unit {0}
NameIn line (Some (Ask.C t)) = Unit {0}
NameIn line (Some Ask.V) = Unit {0}
NameIn line None = Unit {0}

-- what was read stands for o
pub record Reads (line : Bytes) (a : code.Option Ask) (o : Option Question) : Type 0 where
  pub meant : asks_meant line a ≡ o
  pub named : NameIn line a

-- no package, or one of the table's
unfoldable pub package_known : Words → code.Option PackageKey → Bool
package_known rows None = true
package_known rows (Some p) = ltb p.0 (package_count rows)

-- the numbers are the table's
unfoldable pub known_read : Words → code.Option Ask → Bool
known_read rows (Some (Ask.S t a pkg at len)) = ltb t.0 (type_count rows) && package_known rows pkg
known_read rows (Some (Ask.M t)) = ltb t.0 (type_count rows)
known_read rows (Some (Ask.N t i s)) = ltb t.0 (type_count rows) && ltb i.0 (type_count rows)
known_read rows (Some (Ask.I x y)) = ltb x.0 (type_count rows) && ltb y.0 (type_count rows)
known_read rows (Some (Ask.C t)) = ltb t.0 (type_count rows)
known_read rows (Some Ask.V) = true
known_read rows None = false

-- the same, number by number
unfoldable pub Known : Words → code.Option Ask → Type 0
Known rows (Some (Ask.S t a pkg at len)) = (t.0 < type_count rows) × (package_known rows pkg ≡ true)
Known rows (Some (Ask.M t)) = t.0 < type_count rows
Known rows (Some (Ask.N t i s)) = (t.0 < type_count rows) × (i.0 < type_count rows)
Known rows (Some (Ask.I x y)) = (x.0 < type_count rows) × (y.0 < type_count rows)
Known rows (Some (Ask.C t)) = t.0 < type_count rows
Known rows (Some Ask.V) = Unit {0}
Known rows None = Unit {0}

-- 12: the second type of an N question is of another kind than iface
unfoldable pub second_read : Words → code.Option Ask → Bool
second_read rows (Some (Ask.S t a pkg at len)) = false
second_read rows (Some (Ask.M t)) = false
second_read rows (Some (Ask.N t i s)) = not (eqb (number_read rows i) 9)
second_read rows (Some (Ask.I x y)) = false
second_read rows (Some (Ask.C t)) = false
second_read rows (Some Ask.V) = false
second_read rows None = false
