-- Refusals 14 and 7 to 10 as five tests of a line of the table. Loading tries each over the whole text before the next.
use Rattle.std.specs.Prelude.{Bool, true, false, cond, not, ◌&&◌, ◌||◌, List, [], ◌∷◌, ◌++◌, ℕ, suc, ltb, get_or}
use Rattle.objects.specs.Lists.{Bytes, any, every, last_of}
use Rattle.objects.specs.declared.TypeKey.{TypeKey}
use Rattle.objects.specs.Table.{Table, type_key, same_type, size, Entity, Field, Method, Member, Kind, Basic, Array, Slice, Pointer, Map, Chan, Tuple, Func, Struct, Iface, Named, is_slice, is_pointer, is_tuple, is_func, is_iface, is_named, refs, members_of, fields_of, by_value, has_type, has_package, kind_at, bare, under, pointer_at, iface_under, named_pointer}
use Rattle.text.specs.Bytes.{below_bytes, is_blank}
use Rattle.rules.specs.Members.{id_bytes, identity_of, same_member}
use Rattle.rules.specs.Chains.{leads}

-- ---- P lines

-- a P line behind another, with the path of that one
pub record PathItem : Type 0 where
  pub line : ℕ
  pub before : Bytes
  pub path : Bytes

-- the P lines behind one that has this path and stands on this line
abbrev pub paths_behind : ℕ → Bytes → List Bytes → List PathItem
paths_behind line path [] = []
paths_behind line path (next ∷ rest) = record { line = suc line; before = path; path = next } ∷ paths_behind (suc line) next rest

-- P lines stand before all others (5), so that the first of them is line 2 of the text
unfoldable pub path_items : List Bytes → List PathItem
path_items [] = []
path_items (path ∷ rest) = paths_behind 2 path rest

-- 14: "P lines must come in strictly ascending order of the bytes of their paths"
unfoldable pub unordered : PathItem → Bool
unordered i = not (below_bytes i.before i.path)

-- ---- T, F and M lines

-- a T line with its type; an F or M line with the type above it and the members between
pub data Item : Type 0 where
  type_item : TypeKey → Kind → Item
  member_item : TypeKey → Kind → (before : List Member) → Member → Item

abbrev pub member_items : TypeKey → Kind → List Member → List Member → List Item
member_items t k before [] = []
member_items t k before (m ∷ ms) = member_item t k before m ∷ member_items t k (before ++ (m ∷ [])) ms

-- the T, F and M lines in the order of the text, types from number n on
unfoldable pub items_from : ℕ → List Kind → List Item
items_from n [] = []
items_from n (k ∷ ks) = type_item (type_key n) k ∷ member_items (type_key n) k [] (members_of k) ++ items_from (suc n) ks

abbrev pub items : Table → List Item
items T = items_from 0 T.types

-- the line of the text that it stands on
unfoldable pub line_of_item : Table → Item → ℕ
line_of_item T (type_item t k) = get_or T.type_lines t.0 0
line_of_item T (member_item t k before m) = get_or T.member_lines m.key.0 0

module _ (T : Table) where
  -- 7: "A line refers to a package or type number that the table lacks."
  unfoldable pub lacking : Item → Bool
  lacking (type_item t k) = not (every (has_type T) (refs k))
  lacking (member_item t k before m) = not (has_type T m.type && has_package T m.pkg)

  -- "No line but func refers to a tuple"; "refer to a smaller number than their type's, unless the target is named or iface"
  abbrev pub may_refer : TypeKey → TypeKey → Bool
  may_refer t e = not (is_tuple (kind_at T e)) && (ltb e.0 t.0 || is_named (kind_at T e) || is_iface (kind_at T e))

  -- "func refers to two smaller-numbered tuples"
  abbrev pub smaller_tuple : TypeKey → TypeKey → Bool
  smaller_tuple t e = is_tuple (kind_at T e) && ltb e.0 t.0

  -- "the first ends in a slice"
  abbrev pub ends_in_slice : TypeKey → Bool
  ends_in_slice p = any (λ e. is_slice (kind_at T e)) (last_of (refs (kind_at T p)))

  -- "A named type's u is neither named nor tuple"
  abbrev pub may_name : TypeKey → Bool
  may_name u = not (is_named (kind_at T u) || is_tuple (kind_at T u))

  abbrev pub type_allowed : TypeKey → Kind → Bool
  type_allowed t (Basic k) = true
  type_allowed t (Array n e) = may_refer t e
  type_allowed t (Slice e) = may_refer t e
  type_allowed t (Pointer e) = may_refer t e
  type_allowed t (Map k e) = may_refer t k && may_refer t e
  type_allowed t (Chan d e) = may_refer t e
  type_allowed t (Tuple es) = every (may_refer t) es
  type_allowed t (Func v p r) = smaller_tuple t p && smaller_tuple t r && (not v || ends_in_slice p)
  type_allowed t (Struct ms) = true
  type_allowed t (Iface ms) = true
  type_allowed t (Named u ms) = may_name u

  -- "An embedded field's type is neither a named pointer type nor a pointer to a pointer, an interface, or a name of either."
  abbrev pub may_embed : TypeKey → Bool
  may_embed e = not (named_pointer T e) && not (pointer_at T e && (pointer_at T (under T (bare T e)) || iface_under T (bare T e)))

  -- a named type "with methods .. is neither pointer nor iface (refused at its first M line)"; "an interface's ptr is 0"
  abbrev pub may_have : Kind → Bool → Bool
  may_have k ptr = cond (is_iface k) (not ptr) (every (λ u. not (is_pointer (kind_at T u) || is_iface (kind_at T u))) (refs k))

  abbrev pub member_allowed : TypeKey → Kind → TypeKey → Entity → Bool
  member_allowed t k e (Field emb tag) = may_refer t e && (not emb || may_embed e)
  member_allowed t k e (Method ptr) = is_func (kind_at T e) && may_have k ptr

  -- 8: "A line refers to a kind of type not allowed there."
  unfoldable pub forbidden : Item → Bool
  forbidden (type_item t k) = not (type_allowed t k)
  forbidden (member_item t k before m) = not (member_allowed t k m.type m.entity)

  -- "Interface methods strictly ascend by the bytes of the id": m after the one before it, if there is one
  abbrev pub ascends : List Member → Member → Bool
  ascends before m = every (λ b. below_bytes (id_bytes (identity_of T b)) (id_bytes (identity_of T m))) (last_of before)

  -- "A named type's method differs from the fields of its struct."
  abbrev pub equals_field : Kind → Member → Bool
  equals_field k m = is_named k && any (λ u. any (same_member T m) (fields_of (kind_at T u))) (refs k)

  -- 9: "A member's identity clashes, or an interface's methods do not ascend"; "Blank fields `_` may repeat."
  unfoldable pub clashing : Item → Bool
  clashing (type_item t k) = false
  clashing (member_item t k before m) =
      (not (is_blank m.name) && any (same_member T m) before)
      || (is_iface k && not (ascends before m))
      || equals_field k m

  -- what a type contains by value, one step
  abbrev pub contents : TypeKey → List TypeKey
  contents t = by_value (kind_at T t)

  -- 10: "A type contains itself by value"
  unfoldable pub containing : Item → Bool
  containing (type_item t k) = leads same_type contents (same_type t) (size T) [] (contents t)
  containing (member_item t k before m) = false
