-- Rows that a question may be asked of: they hold the table that the text loads to, in order, with the rank that refusal 10 leaves behind, and members are
-- signed if the rows say so. The loader hands this to every query. ("two libraries, that is tables on which V says `ok`")
use Rattle.std.specs.Prelude.{◌≡◌, ◌≢◌, ℕ, ◌+◌, ◌<◌, ◌≤◌, length}
use Rattle.objects.specs.Lists.{Bytes, In}
use Rattle.objects.specs.declared.TypeKey.{TypeKey}
use Rattle.objects.specs.declared.ObjKey.{ObjKey}
use Rattle.objects.specs.Rows.{Words, type_count, member_count_of, type_word, signed_of, signs_at, sign_at, member_at, table_of}
use Rattle.objects.specs.Laid.{Laid}
use Rattle.text.specs.Hash.{hash_from}
use Rattle.rules.specs.Checks.{contents}
use Rattle.rules.specs.Load.{loaded, load}

-- a type's rank: the word of its row that no reader of the table looks at
unfoldable pub rank_read : Words → TypeKey → ℕ
rank_read rows t = type_word rows t 7

-- what a type contains by value has a smaller rank: "a falling rank that exists because no type contains itself by value"
abbrev pub Ranked : Bytes → Words → Type 0
Ranked text rows = (t e : TypeKey) → t.0 < type_count rows → In e (contents (table_of text rows) t) → rank_read rows e < rank_read rows t

-- each member's sign is the hash of its name
pub record Signed (text : Bytes) (rows : Words) : Type 0 where
  pub room : signs_at rows + member_count_of rows ≤ length rows
  pub signs : (m : ObjKey) → m.0 < member_count_of rows → sign_at rows m ≡ hash_from 0 (member_at text rows m).name

pub record Library (text : Bytes) (rows : Words) : Type 0 where
  pub loads : load text ≡ loaded (table_of text rows)
  pub laid : Laid rows
  pub ranked : Ranked text rows
  pub signed : signed_of rows ≢ 0 → Signed text rows
