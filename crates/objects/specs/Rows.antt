-- A table as rows of 32-bit words, and the table that is read off them. Names, paths and tags are a place and a length in the text. A word that is not
-- there reads as 0, so that every reader is total.
use Rattle.std.specs.Prelude.{true, false, cond, List, map, ℕ, ◌+◌, ◌*◌, ◌-◌, eqb, length, get_or, take, drop}
use Rattle.std.proofs.Math.Option.{Option, none, some}
use Rattle.objects.specs.declared.TypeKey.{TypeKey}
use Rattle.objects.specs.declared.ObjKey.{ObjKey}
use Rattle.objects.specs.declared.PackageKey.{PackageKey}
use Rattle.std.specs.declared.option.Option as code
use Rattle.std.specs.Prelude.{Some, None}
use Rattle.objects.specs.declared.Dir.{Dir}
use Rattle.objects.specs.Bounds.{signed_at, row_words, types_at, members_at, packages_at}
use Rattle.objects.specs.Lists.{Bytes, up_to}
use Rattle.objects.specs.Table.{Table, Member, Entity, Field, Method, Kind, Basic, Array, Slice, Pointer, Map, Chan, Tuple, Func, Struct, Iface, Named, type_key, obj_key, package_key}

-- ---- words

abbrev pub Words : Type 0
Words = List ℕ

unfoldable pub word_at : Words → ℕ → ℕ
word_at rows i = get_or rows i 0

-- the counts of packages, types, members and elements of tuples
unfoldable pub package_count : Words → ℕ
package_count rows = word_at rows 0

unfoldable pub type_count : Words → ℕ
type_count rows = word_at rows 1

unfoldable pub member_count_of : Words → ℕ
member_count_of rows = word_at rows 2

unfoldable pub element_count : Words → ℕ
element_count rows = word_at rows 3

-- word j of a type's row: 0 its kind; 1 to 3 its numbers, in the order of its T line; 4 and 5 its first member (or element) and their count; 6 its line; 7 its rank
unfoldable pub type_word : Words → TypeKey → ℕ → ℕ
type_word rows t j = word_at rows (types_at + row_words * t.0 + j)

-- word j of a member's row: 0 and 1 its name; 2 its package's number and one, 0 for none; 3 its type; 4 its form; 5 and 6 its tag; 7 its line
unfoldable pub member_word : Words → ObjKey → ℕ → ℕ
member_word rows m j = word_at rows (members_at (length rows) + row_words * m.0 + j)

-- word j of a package's row: 0 and 1 its path
unfoldable pub package_word : Words → PackageKey → ℕ → ℕ
package_word rows p j = word_at rows (packages_at + 2 * p.0 + j)

-- the elements stand from the last word downwards; one that is not there reads as the first word
unfoldable pub element_at : Words → ℕ → TypeKey
element_at rows i = type_key (word_at rows (length rows - 1 - i))

-- ---- signs of members, which the table does not show

-- not 0 if each member has a sign
unfoldable pub signed_of : Words → ℕ
signed_of rows = word_at rows signed_at

-- the signs stand behind the members, a word for each
abbrev pub signs_at : Words → ℕ
signs_at rows = members_at (length rows) + row_words * member_count_of rows

unfoldable pub sign_at : Words → ObjKey → ℕ
sign_at rows m = word_at rows (signs_at rows + m.0)

-- ---- what the words mean

-- the bytes of the text from a place on
unfoldable pub bytes_at : Bytes → ℕ → ℕ → Bytes
bytes_at text at count = take count (drop at text)

-- a member's form: 0 a field, 1 an embedded field, 2 a method, 3 a method with pointer receiver
unfoldable pub entity_of : ℕ → Bytes → Entity
entity_of form tag = cond (eqb form 0) (Field false tag) (cond (eqb form 1) (Field true tag) (cond (eqb form 2) (Method false) (Method true)))

-- "pkg is a number or `-` for none"
unfoldable pub package_meant : code.Option PackageKey → Option PackageKey
package_meant None = none
package_meant (Some p) = some p

-- the package that a word says: its number and one, 0 for none
unfoldable pub package_from : ℕ → code.Option PackageKey
package_from n = cond (eqb n 0) None (Some (package_key (n - 1)))

unfoldable pub pkg_of : ℕ → Option PackageKey
pkg_of n = package_meant (package_from n)

unfoldable pub dir_at : ℕ → Dir
dir_at n = cond (eqb n 0) Dir.Both (cond (eqb n 1) Dir.Send Dir.Receive)

-- n numbers from a first one on
abbrev pub from : ℕ → ℕ → List ℕ
from first n = map (λ i. first + i) (up_to n)

module _ (text : Bytes) (rows : Words) where
  unfoldable pub member_at : ObjKey → Member
  member_at m = record {
    key = m;
    name = bytes_at text (member_word rows m 0) (member_word rows m 1);
    pkg = pkg_of (member_word rows m 2);
    type = type_key (member_word rows m 3);
    entity = entity_of (member_word rows m 4) (bytes_at text (member_word rows m 5) (member_word rows m 6));
  }

  -- n members from a first one on
  unfoldable pub members_from : ℕ → ℕ → List Member
  members_from first n = map (λ i. member_at (obj_key i)) (from first n)

  -- n elements of tuples from a first one on
  unfoldable pub elements_from : ℕ → ℕ → List TypeKey
  elements_from first n = map (element_at rows) (from first n)

  -- the kind that a row with these words is of
  unfoldable pub kind_of : (kind a b c first count : ℕ) → Kind
  kind_of kind a b c first count =
      cond (eqb kind 0) (Basic a)
      (cond (eqb kind 1) (Array a (type_key b))
      (cond (eqb kind 2) (Slice (type_key a))
      (cond (eqb kind 3) (Pointer (type_key a))
      (cond (eqb kind 4) (Map (type_key a) (type_key b))
      (cond (eqb kind 5) (Chan (dir_at a) (type_key b))
      (cond (eqb kind 6) (Tuple (elements_from first count))
      (cond (eqb kind 7) (Func (eqb a 1) (type_key b) (type_key c))
      (cond (eqb kind 8) (Struct (members_from first count))
      (cond (eqb kind 9) (Iface (members_from first count))
      (Named (type_key a) (members_from first count)))))))))))

  unfoldable pub kind_read : TypeKey → Kind
  kind_read t = kind_of (type_word rows t 0) (type_word rows t 1) (type_word rows t 2) (type_word rows t 3) (type_word rows t 4) (type_word rows t 5)

  unfoldable pub path_read : PackageKey → Bytes
  path_read p = bytes_at text (package_word rows p 0) (package_word rows p 1)

  -- THE TABLE THAT THE ROWS HOLD
  unfoldable pub table_of : Table
  table_of = record {
    packages = map (λ p. path_read (package_key p)) (up_to (package_count rows));
    types = map (λ t. kind_read (type_key t)) (up_to (type_count rows));
    type_lines = map (λ t. type_word rows (type_key t) 6) (up_to (type_count rows));
    member_lines = map (λ m. member_word rows (obj_key m) 7) (up_to (member_count_of rows));
  }
