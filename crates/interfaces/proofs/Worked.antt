-- Small tables with E lines whose answers were found by hand, computed: full lists, as defined and as read off runs, and where refusals 16 and 17 are due.
use mathlib.Core.Path.{◌≡◌, refl}
use mathlib.Core.Bool.{false}
use mathlib.Core.List.{List, [], ◌∷◌, map}
use mathlib.Core.Option.{Option, none, some}
use Prim.Native.Nat.{ℕ}
use Prim.Native.String.{String}
use lib.ListN.{get_or}
use Rattle.objects.specs.declared.PackageKey.{PackageKey}
use Rattle.objects.specs.Table.{Member, Kind, Basic, Tuple, Func, Iface, Named, Method, type_key, obj_key, package_key, kind_at, under, path_of}
use Rattle.text.specs.Bytes.{ascii, exported}
use Rattle.rules.specs.Members.{identity_of, identity_from, same_id, id_bytes}
use Rattle.rules.specs.Chains.{leads}
use Rattle.rules.specs.Identity.{identical, mismatch, pair_parts, parts, own_number, real_type}
use Rattle.interfaces.specs.Interfaces.{Interfaces, types, interfaces, reaches}
use Rattle.interfaces.specs.FullList.{entries, names, full_list}
use Rattle.interfaces.specs.Runs.{arranged, runs, read_list}
use Rattle.interfaces.specs.Orders.{embeds_itself, cyclic, reach_sets}
use Rattle.interfaces.specs.Clashes.{clashes, clashing}
use Rattle.interfaces.specs.OfTable.{interfaces_of}

-- an M line: number, name, package, sig
method : ℕ → String → Option PackageKey → ℕ → Member
method n name pkg sig = record { key = obj_key n; name = ascii name; pkg = pkg; type = type_key sig; entity = Method false }

table : List Kind → List (List ℕ) → Interfaces
table ks es = interfaces_of (record { packages = ascii "a/p" ∷ ascii "b/p" ∷ []; types = ks; type_lines = []; member_lines = [] }) (λ t. map type_key (get_or es t.0 []))

-- the member numbers of the full list of type t
list_of : Interfaces → ℕ → List ℕ
list_of I t = map (λ m. m.key.0) (full_list I (type_key t))

-- the same, read off arranged methods by sets that were made in one pass over the interfaces of `order`
read_of : Interfaces → List ℕ → ℕ → List ℕ
read_of I order t = map (λ m. m.key.0) (read_list (type_key t) (reach_sets I (map type_key order) (type_key t)) (runs I (arranged I)))

-- ---- "Its member is the own one if there is one, otherwise the one of the least number": own is own of the very interface whose list it is

covered : Interfaces
covered =
    table (Tuple [] ∷ Func false (type_key 0) (type_key 0) ∷ Iface (method 0 "X" none 1 ∷ []) ∷ Iface (method 1 "X" none 1 ∷ []) ∷ Iface [] ∷ Named (type_key 4) [] ∷ [])
    ([] ∷ [] ∷ [] ∷ (2 ∷ []) ∷ (3 ∷ []) ∷ [])

covered-lists : (list_of covered 2 ∷ list_of covered 3 ∷ list_of covered 4 ∷ list_of covered 5 ∷ list_of covered 1 ∷ []) ≡ ((0 ∷ []) ∷ (1 ∷ []) ∷ (0 ∷ []) ∷ (0 ∷ []) ∷ [] ∷ [])
unfolding covered list_of table method full_list names entries types reaches leads identity_of identity_from same_id id_bytes exported path_of kind_at under
covered-lists = refl

-- ---- a diamond, with M lines that do not ascend, repeated E lines, a name, and one name in two packages

diamond : Interfaces
diamond =
    table
    (Tuple [] ∷ Func false (type_key 0) (type_key 0)
    ∷ Iface (method 0 "z" (some (package_key 0)) 1 ∷ method 1 "B" none 1 ∷ [])
    ∷ Iface (method 2 "C" none 1 ∷ [])
    ∷ Iface (method 3 "z" (some (package_key 1)) 1 ∷ method 4 "B" none 1 ∷ [])
    ∷ Iface (method 5 "A" none 1 ∷ method 6 "C" none 1 ∷ [])
    ∷ Named (type_key 2) [] ∷ [])
    ([] ∷ [] ∷ [] ∷ (2 ∷ 6 ∷ []) ∷ (6 ∷ 6 ∷ []) ∷ (3 ∷ 4 ∷ []) ∷ [])

-- A, B, C, a/p.z, b/p.z
diamond-lists : (list_of diamond 2 ∷ list_of diamond 3 ∷ list_of diamond 4 ∷ list_of diamond 5 ∷ []) ≡ ((1 ∷ 0 ∷ []) ∷ (1 ∷ 2 ∷ 0 ∷ []) ∷ (4 ∷ 0 ∷ 3 ∷ []) ∷ (5 ∷ 1 ∷ 6 ∷ 0 ∷ 3 ∷ []) ∷ [])
unfolding diamond list_of table method full_list names entries types reaches leads identity_of identity_from same_id id_bytes exported path_of kind_at under
diamond-lists = refl

diamond-read : (read_of diamond (5 ∷ 4 ∷ 3 ∷ 2 ∷ []) 4 ∷ read_of diamond (5 ∷ 4 ∷ 3 ∷ 2 ∷ []) 5 ∷ []) ≡ ((4 ∷ 0 ∷ 3 ∷ []) ∷ (5 ∷ 1 ∷ 6 ∷ 0 ∷ 3 ∷ []) ∷ [])
unfolding diamond read_of table method read_list arranged reach_sets names entries types identity_of identity_from same_id id_bytes exported path_of kind_at under
diamond-read = refl

-- ---- 16: a name is no interface on the cycle; 17: at the first interface that reaches the clash

circle : Interfaces
circle = table (Named (type_key 1) [] ∷ Iface [] ∷ Iface [] ∷ []) ([] ∷ (0 ∷ []) ∷ (1 ∷ []) ∷ [])

circle-cyclic : cyclic circle ≡ type_key 1 ∷ []
unfolding circle table cyclic embeds_itself interfaces types leads kind_at under
circle-cyclic = refl

-- 5 embeds 6, which embeds 7; 6 and 7 have X of different signatures
apart : Interfaces
apart =
    table
    (Basic 2 ∷ Tuple [] ∷ Tuple (type_key 0 ∷ []) ∷ Func false (type_key 1) (type_key 1) ∷ Func false (type_key 2) (type_key 1)
    ∷ Iface [] ∷ Iface (method 0 "X" none 4 ∷ []) ∷ Iface (method 1 "X" none 3 ∷ []) ∷ [])
    ([] ∷ [] ∷ [] ∷ [] ∷ [] ∷ (6 ∷ []) ∷ (7 ∷ []) ∷ [])

apart-clashing : clashing apart (identical apart.table) ≡ type_key 5 ∷ []
unfolding apart table method clashing clashes interfaces entries types reaches leads identity_of identity_from same_id exported path_of kind_at under identical mismatch pair_parts parts own_number real_type
apart-clashing = refl

apart-ordered : cyclic apart ≡ []
unfolding apart table method cyclic embeds_itself interfaces types leads kind_at under
apart-ordered = refl

-- methods of two names may have different types
two-names : Interfaces
two-names =
    table
    (Basic 2 ∷ Tuple [] ∷ Tuple (type_key 0 ∷ []) ∷ Func false (type_key 1) (type_key 1) ∷ Func false (type_key 2) (type_key 1)
    ∷ Iface (method 0 "X" none 4 ∷ method 1 "Y" none 3 ∷ []) ∷ [])
    []

two-names-agree : clashing two-names (identical two-names.table) ≡ []
unfolding two-names table method clashing clashes interfaces entries types reaches leads identity_of identity_from same_id exported path_of kind_at under identical mismatch pair_parts parts own_number real_type
two-names-agree = refl
