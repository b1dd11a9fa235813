-- What code that walks over the lines of a table reads off its rows, whatever the text: names stand in the text, and no reference does.
use Rattle.std.specs.Prelude.{◌≡◌, Bool, cond, ℕ, ltb}
use Rattle.objects.specs.declared.TypeKey.{TypeKey}
use Rattle.objects.specs.declared.ObjKey.{ObjKey}
use Rattle.objects.specs.Lists.{Bytes, every}
use Rattle.objects.specs.Table.{Table, Member, type_key}
use Rattle.objects.specs.Rows.{Words, member_at, elements_from, table_of}
use Rattle.objects.specs.Types.{number_read, first_read, total_read}

-- an answer is what the table that the rows hold gives
abbrev pub Says : {A : Type 0} → Words → A → (Table → A) → Type 0
Says rows answer f = (text : Bytes) → answer ≡ f (table_of text rows)

-- and the member m in it
abbrev pub SaysOf : {A : Type 0} → Words → ObjKey → A → (Table → Member → A) → Type 0
SaysOf rows m answer f = (text : Bytes) → answer ≡ f (table_of text rows) (member_at text rows m)

-- and each element of the tuple t in it: an answer says whether all pass a test
abbrev pub SaysEach : Words → TypeKey → Bool → (Table → TypeKey → Bool) → Type 0
SaysEach rows t answer p = (text : Bytes) → answer ≡ every (p (table_of text rows)) (elements_from text rows (first_read rows t) (total_read rows t))

-- words that are the elements of the tuple t, whatever each is put to
abbrev pub Elements : Words → TypeKey → Words → Type 0
Elements rows t words =
    (text : Bytes) (p : TypeKey → Bool) → every (λ w. p (type_key w)) words ≡ every p (elements_from text rows (first_read rows t) (total_read rows t))

-- how many F and M lines stand under the T line of t: struct (8), iface (9) and named (10) have some
unfoldable pub lines_read : Words → TypeKey → ℕ
lines_read rows t = cond (ltb 7 (number_read rows t)) (total_read rows t) 0
