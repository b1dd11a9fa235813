-- What adding one line leaves (4 to 6).
use Rattle.std.specs.Prelude.{◌≡◌, Bool, cond, ◌&&◌, ◌||◌, List, [], ◌∷◌, ℕ, ◌+◌, ◌*◌, ◌≤◌, ◌<◌, eqb, ltb, length, Result, Ok, Err}
use Rattle.std.proofs.Math.Option.{Option}
use Rattle.objects.specs.declared.TypeKey.{TypeKey}
use Rattle.objects.specs.Bounds.{max_types, max_members, max_per_type, bounds, row_words, members_at}
use Rattle.objects.specs.Lists.{Bytes}
use Rattle.objects.specs.Table.{Table}
use Rattle.objects.specs.Rows.{Words, type_count, member_count_of, element_count, table_of}
use Rattle.objects.specs.Types.{total_read}
use Rattle.objects.specs.declared.refusals.Reason.{Reason}
use Rattle.objects.specs.Refusals.{reason_number}
use Rattle.objects.specs.Laid.{Laid, types_used, last_type, plus_element}
use Rattle.rules.specs.Forms.{Line}
use Rattle.rules.specs.Load.{Loaded, refused, loaded, line_added}
use Rattle.line_forms.specs.Weights.{elements_of}

unfoldable pub verdict_meant : Bytes → Words → ℕ → Result (Unit {0}) Reason → Loaded
verdict_meant text rows line (Ok u) = loaded (table_of text rows)
verdict_meant text rows line (Err reason) = refused (reason_number reason) line

-- ---- types, members, and elements of tuples

-- the bytes that the lines of all types, members and elements have at least: a type's 8, a member's more, an element a tab and a digit
abbrev pub bytes_taken : Words → ℕ
bytes_taken rows = 8 * type_count rows + 8 * member_count_of rows + 2 * element_count rows

-- one type more has its words, unless there are as many as there may be
abbrev pub TypeSpace : Words → Type 0
TypeSpace rows = type_count rows < max_types → types_used rows + row_words ≤ members_at (length rows)

-- the table with more elements of its last type, a tuple
unfoldable pub with_elements : Table → List TypeKey → Table
with_elements T [] = T
with_elements T (e ∷ es) = with_elements (plus_element T e) es

-- ---- one line

-- no more elements than the line brings, if it was added
abbrev pub Brings : Words → Option Line → Words → Result (Unit {0}) Reason → Type 0
Brings rows o after (Ok u) = element_count after ≤ element_count rows + elements_of o
Brings rows o after (Err reason) = Unit {0}

-- The rows behind a line: what the rules give for it, rows in order, and no more elements than it brings.
pub record Grown (text : Bytes) (rows : Words) (line : ℕ) (o : Option Line) (after : Words) (v : Result (Unit {0}) Reason) : Type 0 where
  pub meant : line_added bounds (table_of text rows) line o ≡ verdict_meant text after line v
  pub laid : Laid after
  pub few : Brings rows o after v

-- 5: a field stands under a struct, a method under a named type or interface
unfoldable pub stands_at : ℕ → ℕ → Bool
stands_at form kind = cond (ltb form 2) (eqb kind 8) (eqb kind 10 || eqb kind 9)

-- 6: room for one member more, in all and under the last type
unfoldable pub member_room : Words → Bool
member_room rows = ltb (member_count_of rows) max_members && ltb (total_read rows (last_type rows)) max_per_type
