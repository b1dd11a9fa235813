-- How long a line is and how much it brings: its bytes bound its types, members and elements (proofs/Weights.antt).
use Rattle.std.specs.Prelude.{List, [], ◌∷◌, ℕ, suc, ◌+◌, length}
use Rattle.std.proofs.Math.Option.{Option, none, some}
use Rattle.objects.specs.Lists.{Bytes}
use Rattle.objects.specs.Table.{Kind, Basic, Array, Slice, Pointer, Map, Chan, Tuple, Func, Struct, Iface, Named}
use Rattle.rules.specs.Forms.{Line, package_line, type_line, member_line}

-- the bytes of the fields, and a separator for each
abbrev pub weight : List Bytes → ℕ
weight [] = 0
weight (b ∷ fs) = suc (length b) + weight fs

-- ---- types, members, and elements of tuples

unfoldable pub tuple_size : Kind → ℕ
tuple_size (Basic k) = 0
tuple_size (Array n e) = 0
tuple_size (Slice e) = 0
tuple_size (Pointer e) = 0
tuple_size (Map k e) = 0
tuple_size (Chan d e) = 0
tuple_size (Tuple es) = length es
tuple_size (Func v p r) = 0
tuple_size (Struct ms) = 0
tuple_size (Iface ms) = 0
tuple_size (Named u ms) = 0

-- how many types, members and elements a line brings
unfoldable pub line_types : Line → ℕ
line_types (package_line path) = 0
line_types (type_line k) = 1
line_types (member_line name pkg type e) = 0

unfoldable pub types_in : Option Line → ℕ
types_in none = 0
types_in (some l) = line_types l

unfoldable pub line_members : Line → ℕ
line_members (package_line path) = 0
line_members (type_line k) = 0
line_members (member_line name pkg type e) = 1

unfoldable pub members_in : Option Line → ℕ
members_in none = 0
members_in (some l) = line_members l

unfoldable pub line_elements : Line → ℕ
line_elements (package_line path) = 0
line_elements (type_line k) = tuple_size k
line_elements (member_line name pkg type e) = 0

unfoldable pub elements_of : Option Line → ℕ
elements_of none = 0
elements_of (some l) = line_elements l
