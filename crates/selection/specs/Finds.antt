-- The first member of a list that has an identity, at its place in the list: what a search of one type's own members goes through.
use Rattle.std.specs.Prelude.{◌≡◌, cond, true, List, ℕ, ◌+◌, ◌<◌, ◌≤◌, ltb, take, drop}
use Rattle.std.proofs.Math.Option.{Option, none, some}
use Rattle.objects.specs.declared.TypeKey.{TypeKey}
use Rattle.objects.specs.Bounds.{max_elements}
use Rattle.objects.specs.Lists.{Bytes, keep}
use Rattle.objects.specs.Table.{Table, Member, obj_key, has_package, kind_at, fields_of, all_methods_of}
use Rattle.objects.specs.Rows.{Words, package_meant, member_count_of, signs_at, bytes_at, member_at, members_from, table_of}
use Rattle.text.specs.Hash.{hash_from}
use Rattle.rules.specs.Members.{Identity, identity_of, same_id}
use Rattle.rules.specs.Library.{Signed}
use Rattle.rules.specs.Sound.{Ordered}
use Rattle.rules.specs.Ways.{Place, places_from}
use Rattle.selection.specs.declared.Name.{Name}
use Rattle.selection.specs.Results.{first, name_meant}

-- the first of the members that is asked for; their places go on from n
unfoldable pub first_from : Table → Identity → ℕ → List Member → Option Place
first_from T q n ms = first (keep (λ p. same_id (identity_of T p.member) q) (places_from n ms))

-- one, or else the other
unfoldable pub or_else : Option Place → Option Place → Option Place
or_else none p = p
or_else (some o) p = some o

-- the first of the struct's fields, or of the interface's methods: no type has both
unfoldable pub first_plain : Table → Identity → TypeKey → Option Place
first_plain T q u = or_else (first_from T q 0 (fields_of (kind_at T u))) (first_from T q 0 (all_methods_of (kind_at T u)))

-- member i of the `count` from number `from` on; none past the last
unfoldable pub place_at : Bytes → Words → ℕ → ℕ → ℕ → Option Place
place_at text rows from count i = cond (ltb i count) (some (record { place = i; member = member_at text rows (obj_key (from + i)) })) none

-- Members that may be searched for a name, `count` from number `from` on: their packages and that of the name are the table's, whose paths ascend.
pub record Searched (text : Bytes) (rows : Words) (from count : ℕ) (q : Name) : Type 0 where
  pub packaged : (i : ℕ) → i < count → has_package (table_of text rows) (member_at text rows (obj_key (from + i))).pkg ≡ true
  pub asked : has_package (table_of text rows) (package_meant q.pkg) ≡ true
  pub fits : from + count ≤ max_elements
  pub ordered : Ordered (table_of text rows)

-- The signs of those members, which the rows have, and that of the name.
pub record SignsAre (text : Bytes) (rows : Words) (from count : ℕ) (names : Bytes) (q : Name) (signs : Words) (sign : ℕ) : Type 0 where
  pub signed : Signed text rows
  pub within : from + count ≤ member_count_of rows
  pub members : signs ≡ take count (drop (signs_at rows + from) rows)
  pub asked : sign ≡ hash_from 0 (bytes_at names q.at q.len)

-- i is the place of the first of them that has the name, or none has it and i is past the last
abbrev pub FoundAt : Bytes → Words → (from count : ℕ) → Bytes → Name → ℕ → Type 0
FoundAt text rows from count names q i =
    place_at text rows from count i ≡ first_from (table_of text rows) (name_meant text rows names q) 0 (members_from text rows from count)
