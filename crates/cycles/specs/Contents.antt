-- What a type contains by value, one step ("through array elements, fields and a named type's u"), read off the rows. No text is asked for.
use Rattle.std.specs.Prelude.{◌≡◌, cond, List, [], ℕ, ◌+◌, ◌<◌, eqb}
use Rattle.std.proofs.Math.Option.{none}
use Rattle.objects.specs.declared.TypeKey.{TypeKey}
use Rattle.objects.specs.Lists.{Bytes, In}
use Rattle.objects.specs.Table.{type_key, obj_key, same_type}
use Rattle.objects.specs.Rows.{Words, type_count, type_word, table_of}
use Rattle.objects.specs.Types.{number_read, first_read, total_read, member_type_read}
use Rattle.rules.specs.Chains.{Chain}
use Rattle.rules.specs.Checks.{contents, items, lacking}
use Rattle.rules.specs.Stages.{first_item}

-- how many there are: an array's e, a struct's fields, a named type's u
unfoldable pub content_total : Words → TypeKey → ℕ
content_total rows t = cond (eqb (number_read rows t) 8) (total_read rows t) (cond (eqb (number_read rows t) 1) 1 (cond (eqb (number_read rows t) 10) 1 0))

-- the i-th of them
unfoldable pub content_read : Words → TypeKey → ℕ → TypeKey
content_read rows t i =
    cond (eqb (number_read rows t) 8) (member_type_read rows (obj_key (first_read rows t + i)))
    (cond (eqb (number_read rows t) 1) (type_key (type_word rows t 2)) (type_key (type_word rows t 1)))

-- all of them: the contents of the table that the rows hold, whatever the text
unfoldable pub inside : Words → TypeKey → List TypeKey
inside rows t = contents (table_of [] rows) t

-- they are types that the table has
abbrev pub Within : Words → Type 0
Within rows = (t e : TypeKey) → In e (inside rows t) → e.0 < type_count rows

-- 7 passed, with some text
abbrev pub Refers : Words → Type 0
Refers rows = (text : Bytes) × (first_item (table_of text rows) (lacking (table_of text rows)) (items (table_of text rows)) ≡ none)

-- "A type contains itself by value": a chain leads from what it contains back to it
abbrev pub Back : Words → TypeKey → Type 0
Back rows t = (e : TypeKey) × In e (inside rows t) × Chain (inside rows) (same_type t) e
