-- How rows are laid while a table is written. Each writer (src/writers.rt) keeps `Laid` and says what table the rows then hold.
use Rattle.std.specs.Prelude.{◌≡◌, cond, [], ◌∷◌, ◌++◌, ◌≢◌, ℕ, suc, ◌+◌, ◌*◌, ◌-◌, ◌≤◌, ◌<◌, eqb, length, set}
use Rattle.std.proofs.Math.Option.{Option}
use Rattle.objects.specs.declared.TypeKey.{TypeKey}
use Rattle.objects.specs.declared.ObjKey.{ObjKey}
use Rattle.objects.specs.declared.PackageKey.{PackageKey}
use Rattle.objects.specs.Bounds.{max_types, max_packages, max_members, max_elements, row_words, types_at, members_at}
use Rattle.objects.specs.Lists.{Bytes, on_last}
use Rattle.objects.specs.Table.{Table, Member, Kind, Basic, Array, Slice, Pointer, Map, Chan, Tuple, Func, Struct, Iface, Named, type_key, obj_key, with_types}
use Rattle.objects.specs.Rows.{Words, package_count, type_count, member_count_of, element_count, type_word, member_word, signed_of, sign_at, bytes_at, entity_of, table_of}

-- ---- rows in order

-- where the members of a type of this kind end while it is the last: behind all members, a tuple's elements (kind 6) behind all elements
unfoldable pub end_of : Words → ℕ → ℕ
end_of rows kind = cond (eqb kind 6) (element_count rows) (member_count_of rows)

-- the type above: the last so far
abbrev pub last_type : Words → TypeKey
last_type rows = type_key (type_count rows - 1)

-- the words up to the last type's
abbrev pub types_used : Words → ℕ
types_used rows = types_at + row_words * type_count rows

-- the words up to the first member's, and those of all members and elements
abbrev pub used : Words → ℕ
used rows = members_at (length rows) + row_words * member_count_of rows + element_count rows

-- All counts are within bounds, types, members and elements do not meet, and no type has members or elements that are not there yet.
pub record Laid (rows : Words) : Type 0 where
  pub short : types_used rows ≤ members_at (length rows)
  pub long : used rows ≤ length rows
  pub packages : package_count rows ≤ max_packages
  pub types : type_count rows ≤ max_types
  pub members : member_count_of rows ≤ max_members
  pub elements : element_count rows ≤ max_elements
  pub within : (t : TypeKey) → t.0 < type_count rows → type_word rows t 4 + type_word rows t 5 ≤ end_of rows (type_word rows t 0)
  pub last : (t : TypeKey) → suc t.0 ≡ type_count rows → type_word rows t 4 + type_word rows t 5 ≡ end_of rows (type_word rows t 0)

-- Rows in order that hold a table, whatever the text.
pub record Holds (rows : Words) (table : Bytes → Table) : Type 0 where
  pub laid : Laid rows
  pub held : (text : Bytes) → table_of text rows ≡ table text

-- the last type's count is raised by one
unfoldable pub raised : Words → Words
raised rows = set rows (types_at + row_words * (type_count rows - 1) + 5) (type_word rows (last_type rows) 5 + 1)

-- ---- what a line is made of

-- the member with this key and this package that a row with these words says
abbrev pub member_of : Bytes → (key name len : ℕ) (pkg : Option PackageKey) (type form tag tag_len : ℕ) → Member
member_of text key name len pkg type form tag tag_len = record {
  key = obj_key key;
  name = bytes_at text name len;
  pkg = pkg;
  type = type_key type;
  entity = entity_of form (bytes_at text tag tag_len);
}

-- a kind with one element more on its T line
abbrev pub element_added : TypeKey → Kind → Kind
element_added t (Basic k) = Basic k
element_added t (Array n e) = Array n e
element_added t (Slice e) = Slice e
element_added t (Pointer e) = Pointer e
element_added t (Map k e) = Map k e
element_added t (Chan d e) = Chan d e
element_added t (Tuple es) = Tuple (es ++ (t ∷ []))
element_added t (Func v p r) = Func v p r
element_added t (Struct ms) = Struct ms
element_added t (Iface ms) = Iface ms
element_added t (Named u ms) = Named u ms

unfoldable pub plus_element : Table → TypeKey → Table
plus_element T e = with_types (on_last (element_added e) T.types) T

-- ---- a type's rank

-- The rank of one type alone is another: the table is as it was.
pub record RankPut (rows : Words) (t : TypeKey) (rank : ℕ) (after : Words) : Type 0 where
  pub holds : Holds after (λ text. table_of text rows)
  pub here : type_word after t 7 ≡ rank
  pub elsewhere : (u : TypeKey) → u.0 ≢ t.0 → type_word after u 7 ≡ type_word rows u 7

-- ---- signs of members

-- The words of the table are as they were, in rows as long: only others may have changed.
pub record Beside (rows after : Words) : Type 0 where
  pub holds : Holds after (λ text. table_of text rows)
  pub long : length after ≡ length rows
  pub packages : package_count after ≡ package_count rows
  pub types : type_count after ≡ type_count rows
  pub members : member_count_of after ≡ member_count_of rows
  pub elements : element_count after ≡ element_count rows
  pub type_words : (t : TypeKey) (j : ℕ) → t.0 < type_count rows → j < row_words → type_word after t j ≡ type_word rows t j
  pub member_words : (m : ObjKey) (j : ℕ) → m.0 < member_count_of rows → j < row_words → member_word after m j ≡ member_word rows m j

-- The sign of one member alone is another.
pub record SignPut (rows : Words) (m : ObjKey) (sign : ℕ) (after : Words) : Type 0 where
  pub beside : Beside rows after
  pub here : sign_at after m ≡ sign
  pub elsewhere : (n : ObjKey) → n.0 ≢ m.0 → sign_at after n ≡ sign_at rows n

-- The word that says whether members are signed alone is another.
pub record SignedPut (rows : Words) (flag : ℕ) (after : Words) : Type 0 where
  pub beside : Beside rows after
  pub here : signed_of after ≡ flag
  pub types : (t : TypeKey) (j : ℕ) → type_word after t j ≡ type_word rows t j
  pub signs : (m : ObjKey) → sign_at after m ≡ sign_at rows m
