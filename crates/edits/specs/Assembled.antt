-- A table put together: its packages and its types in order, with members numbered "from 0 as they come" and every line where it stands in the text.
use Rattle.std.specs.Prelude.{List, [], ◌∷◌, ◌++◌, ℕ, suc, ◌+◌, length}
use Rattle.objects.specs.Lists.{Bytes}
use Rattle.objects.specs.Rows.{from}
use Rattle.objects.specs.Table.{Table, obj_key, Member, Kind, Basic, Array, Slice, Pointer, Map, Chan, Tuple, Func, Struct, Iface, Named, members_of}

-- ---- members numbered from n on

abbrev pub numbered_from : ℕ → List Member → List Member
numbered_from n [] = []
numbered_from n (m ∷ ms) = record { key = obj_key n; name = m.name; pkg = m.pkg; type = m.type; entity = m.entity } ∷ numbered_from (suc n) ms

abbrev pub number_kind : ℕ → Kind → Kind
number_kind n (Basic k) = Basic k
number_kind n (Array l e) = Array l e
number_kind n (Slice e) = Slice e
number_kind n (Pointer e) = Pointer e
number_kind n (Map k e) = Map k e
number_kind n (Chan d e) = Chan d e
number_kind n (Tuple es) = Tuple es
number_kind n (Func v a r) = Func v a r
number_kind n (Struct ms) = Struct (numbered_from n ms)
number_kind n (Iface ms) = Iface (numbered_from n ms)
number_kind n (Named u ms) = Named u (numbered_from n ms)

abbrev pub member_numbers : ℕ → List Kind → List Kind
member_numbers n [] = []
member_numbers n (k ∷ ks) = number_kind n k ∷ member_numbers (n + length (members_of k)) ks

-- ---- the lines of the types, from a line on: a T line, then the members' under it

abbrev pub type_lines_from : ℕ → List Kind → List ℕ
type_lines_from line [] = []
type_lines_from line (k ∷ ks) = line ∷ type_lines_from (suc line + length (members_of k)) ks

abbrev pub member_lines_from : ℕ → List Kind → List ℕ
member_lines_from line [] = []
member_lines_from line (k ∷ ks) = from (suc line) (length (members_of k)) ++ member_lines_from (suc line + length (members_of k)) ks

-- the header is line 1, P lines follow
unfoldable pub assembled : List Bytes → List Kind → Table
assembled packages kinds = record {
  packages = packages;
  types = member_numbers 0 kinds;
  type_lines = type_lines_from (2 + length packages) kinds;
  member_lines = member_lines_from (2 + length packages) kinds;
}
