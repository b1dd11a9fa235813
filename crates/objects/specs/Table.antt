-- The table as a value: what a text that loads stands for. Types and packages are known by their place, members by the key that they carry.
use Rattle.std.specs.Prelude.{Bool, true, false, cond, ◌&&◌, ◌||◌, List, [], ◌∷◌, ◌++◌, map, ℕ, ◌≤◌, eqb, ltb, length, get_or}
use Rattle.std.proofs.Math.Option.{Option, none, some}
use Rattle.objects.specs.declared.TypeKey.{TypeKey}
use Rattle.objects.specs.declared.ObjKey.{ObjKey}
use Rattle.objects.specs.declared.PackageKey.{PackageKey}
use Rattle.objects.specs.declared.Dir.{Dir}
use Rattle.objects.specs.Bounds.{max_reference}
use Rattle.objects.specs.Lists.{Bytes, head_or, on_last}

-- ---- keys: "A type number, a member number and a package number are each a kind of their own"

abbrev pub type_key : ℕ → TypeKey
type_key n = record { 0 = n }

abbrev pub obj_key : ℕ → ObjKey
obj_key n = record { 0 = n }

abbrev pub package_key : ℕ → PackageKey
package_key n = record { 0 = n }

abbrev pub same_type : TypeKey → TypeKey → Bool
same_type t u = eqb t.0 u.0

-- ---- members and kinds

-- "0 both ways, 1 send only, 2 receive only"
abbrev pub dir_number : Dir → ℕ
dir_number Dir.Both = 0
dir_number Dir.Send = 1
dir_number Dir.Receive = 2

abbrev pub bit : Bool → ℕ
bit false = 0
bit true = 1

-- A field, embedded or not, with its tag (no bytes: none); or a method, with pointer receiver or not.
pub data Entity : Type 0 where
  Field : (emb : Bool) (tag : Bytes) → Entity
  Method : (ptr : Bool) → Entity

abbrev pub is_method : Entity → Bool
is_method (Field emb tag) = false
is_method (Method ptr) = true

abbrev pub is_embedded : Entity → Bool
is_embedded (Field emb tag) = emb
is_embedded (Method ptr) = false

abbrev pub has_ptr : Entity → Bool
has_ptr (Field emb tag) = false
has_ptr (Method ptr) = ptr

abbrev pub tag_of : Entity → Bytes
tag_of (Field emb tag) = tag
tag_of (Method ptr) = []

-- An F or M line: its number among all members, and what it says. `type` is a field's type or a method's sig.
pub record Member : Type 0 where
  pub key : ObjKey
  pub name : Bytes
  pub pkg : Option PackageKey
  pub type : TypeKey
  pub entity : Entity

-- The eleven kinds, in the order of document 01, with the members that stand under their T line.
pub data Kind : Type 0 where
  Basic : (k : ℕ) → Kind
  Array : (n : ℕ) (e : TypeKey) → Kind
  Slice Pointer : (e : TypeKey) → Kind
  Map : (k e : TypeKey) → Kind
  Chan : (d : Dir) (e : TypeKey) → Kind
  Tuple : (es : List TypeKey) → Kind
  Func : (v : Bool) (p r : TypeKey) → Kind
  Struct Iface : List Member → Kind
  Named : (u : TypeKey) → List Member → Kind

-- "Packages, types and members are numbered from 0 as they come." The last two say on which line of the text each type and each member stands.
pub record Table : Type 0 where
  pub packages : List Bytes
  pub types : List Kind
  pub type_lines : List ℕ
  pub member_lines : List ℕ

-- Tables are made from the one without lines, by what is put in place of a part: a part more touches none of those who make one.
abbrev pub no_table : Table
no_table = record { packages = []; types = []; type_lines = []; member_lines = [] }

abbrev pub with_packages : List Bytes → Table → Table
with_packages packages T = record { packages = packages; types = T.types; type_lines = T.type_lines; member_lines = T.member_lines }

abbrev pub with_types : List Kind → Table → Table
with_types types T = record { packages = T.packages; types = types; type_lines = T.type_lines; member_lines = T.member_lines }

abbrev pub with_type_lines : List ℕ → Table → Table
with_type_lines lines T = record { packages = T.packages; types = T.types; type_lines = lines; member_lines = T.member_lines }

abbrev pub with_member_lines : List ℕ → Table → Table
with_member_lines lines T = record { packages = T.packages; types = T.types; type_lines = T.type_lines; member_lines = lines }

-- ---- what a kind says

-- its place among the eleven, for tests
abbrev pub kind_number : Kind → ℕ
kind_number (Basic k) = 0
kind_number (Array n e) = 1
kind_number (Slice e) = 2
kind_number (Pointer e) = 3
kind_number (Map k e) = 4
kind_number (Chan d e) = 5
kind_number (Tuple es) = 6
kind_number (Func v p r) = 7
kind_number (Struct ms) = 8
kind_number (Iface ms) = 9
kind_number (Named u ms) = 10

abbrev pub is_array : Kind → Bool
is_array k = eqb (kind_number k) 1

abbrev pub is_slice : Kind → Bool
is_slice k = eqb (kind_number k) 2

abbrev pub is_pointer : Kind → Bool
is_pointer k = eqb (kind_number k) 3

abbrev pub is_tuple : Kind → Bool
is_tuple k = eqb (kind_number k) 6

abbrev pub is_func : Kind → Bool
is_func k = eqb (kind_number k) 7

abbrev pub is_struct : Kind → Bool
is_struct k = eqb (kind_number k) 8

abbrev pub is_iface : Kind → Bool
is_iface k = eqb (kind_number k) 9

abbrev pub is_named : Kind → Bool
is_named k = eqb (kind_number k) 10

-- the types that its T line refers to, in order
abbrev pub refs : Kind → List TypeKey
refs (Basic k) = []
refs (Array n e) = e ∷ []
refs (Slice e) = e ∷ []
refs (Pointer e) = e ∷ []
refs (Map k e) = k ∷ e ∷ []
refs (Chan d e) = e ∷ []
refs (Tuple es) = es
refs (Func v p r) = p ∷ r ∷ []
refs (Struct ms) = []
refs (Iface ms) = []
refs (Named u ms) = u ∷ []

-- the F or M lines under its T line
abbrev pub members_of : Kind → List Member
members_of (Basic k) = []
members_of (Array n e) = []
members_of (Slice e) = []
members_of (Pointer e) = []
members_of (Map k e) = []
members_of (Chan d e) = []
members_of (Tuple es) = []
members_of (Func v p r) = []
members_of (Struct ms) = ms
members_of (Iface ms) = ms
members_of (Named u ms) = ms

-- a kind with one member more under its T line
abbrev pub with_member : Member → Kind → Kind
with_member m (Basic k) = Basic k
with_member m (Array n e) = Array n e
with_member m (Slice e) = Slice e
with_member m (Pointer e) = Pointer e
with_member m (Map k e) = Map k e
with_member m (Chan d e) = Chan d e
with_member m (Tuple es) = Tuple es
with_member m (Func v p r) = Func v p r
with_member m (Struct ms) = Struct (ms ++ (m ∷ []))
with_member m (Iface ms) = Iface (ms ++ (m ∷ []))
with_member m (Named u ms) = Named u (ms ++ (m ∷ []))

-- the fields of a struct; of another kind none
abbrev pub fields_of : Kind → List Member
fields_of k = cond (is_struct k) (members_of k) []

-- the methods declared of a named type
abbrev pub declared_of : Kind → List Member
declared_of k = cond (is_named k) (members_of k) []

-- an interface's full method list (`all_methods`), each method with its key, wherever its line stands
abbrev pub all_methods_of : Kind → List Member
all_methods_of k = cond (is_iface k) (members_of k) []

-- "By value (10): through array elements, fields and a named type's u."
abbrev pub by_value : Kind → List TypeKey
by_value k = cond (is_array k || is_named k) (refs k) (map (λ m. m.type) (fields_of k))

-- ---- a table with one line more, which is line `line` of the text

unfoldable pub plus_package : Table → Bytes → Table
plus_package T path = with_packages (T.packages ++ (path ∷ [])) T

unfoldable pub plus_type : Table → ℕ → Kind → Table
plus_type T line k = with_types (T.types ++ (k ∷ [])) (with_type_lines (T.type_lines ++ (line ∷ [])) T)

unfoldable pub plus_member : Table → ℕ → Member → Table
plus_member T line m = with_types (on_last (with_member m) T.types) (with_member_lines (T.member_lines ++ (line ∷ [])) T)

-- ---- packages

-- "A type or package number of more than four digits has a wrong form."
abbrev pub Numbered : Option PackageKey → Type 0
Numbered none = Unit {0}
Numbered (some p) = p.0 ≤ max_reference

-- ---- what a table says

-- how many types there are, and how many members
abbrev pub size : Table → ℕ
size T = length T.types

abbrev pub member_count : Table → ℕ
member_count T = length T.member_lines

module _ (T : Table) where
  -- a number that the table has
  abbrev pub has_type : TypeKey → Bool
  has_type t = ltb t.0 (size T)

  abbrev pub has_package : Option PackageKey → Bool
  has_package none = true
  has_package (some p) = ltb p.0 (length T.packages)

  -- a number that the table lacks counts as `T basic 0`, so that every rule is total
  unfoldable pub kind_at : TypeKey → Kind
  kind_at t = get_or T.types t.0 (Basic 0)

  -- a package's path, none for none
  unfoldable pub path_of : Option PackageKey → Option Bytes
  path_of none = none
  path_of (some p) = some (get_or T.packages p.0 [])

  -- "A named type stands also for its u."
  unfoldable pub under : TypeKey → TypeKey
  under t = cond (is_named (kind_at t)) (head_or t (refs (kind_at t))) t

  -- one pointer removed, from a type that is itself of kind pointer
  unfoldable pub bare : TypeKey → TypeKey
  bare t = cond (is_pointer (kind_at t)) (head_or t (refs (kind_at t))) t

  unfoldable pub pointer_at : TypeKey → Bool
  pointer_at t = is_pointer (kind_at t)

  -- "with an interface under it"
  unfoldable pub iface_under : TypeKey → Bool
  iface_under t = is_iface (kind_at (under t))

  -- "a named type whose u is a pointer"
  unfoldable pub named_pointer : TypeKey → Bool
  named_pointer t = is_named (kind_at t) && is_pointer (kind_at (under t))

  -- the methods of the interface that t is or names, as a list of members with their keys
  unfoldable pub all_methods : TypeKey → List Member
  all_methods t = all_methods_of (kind_at (under t))
