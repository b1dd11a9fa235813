-- I: type identity. What tells two types apart at once (`mismatch`), which parts correspond (`pair_parts`), and chains of them.
use Rattle.std.specs.Prelude.{Bool, true, false, cond, not, ◌&&◌, List, [], ◌∷◌, ◌++◌, map, ℕ, ◌*◌, eqb, length}
use Rattle.std.specs.Bool.{beq}
use Rattle.text.specs.Bytes.{same_bytes}
use Rattle.objects.specs.declared.TypeKey.{TypeKey}
use Rattle.objects.specs.Table.{Table, size, same_type, dir_number, bit, is_embedded, tag_of, Member, Kind, Basic, Array, Slice, Pointer, Map, Chan, Tuple, Func, Struct, Iface, Named, kind_number, is_named, refs, members_of, kind_at}
use Rattle.rules.specs.Members.{same_member}
use Rattle.rules.specs.Chains.{leads}

-- "Byte is Uint8, Rune is Int32" (`real_type`)
unfoldable pub real_type : ℕ → ℕ
real_type k = cond (eqb k 26) 8 (cond (eqb k 27) 5 k)

-- the number that belongs to a type beside its kind, its parts and its members; "named types are identical only to themselves"
unfoldable pub own_number : TypeKey → Kind → ℕ
own_number t (Basic k) = real_type k
own_number t (Array n e) = n
own_number t (Slice e) = 0
own_number t (Pointer e) = 0
own_number t (Map k e) = 0
own_number t (Chan d e) = dir_number d
own_number t (Tuple es) = length es
own_number t (Func v p r) = bit v
own_number t (Struct ms) = length ms
own_number t (Iface ms) = length ms
own_number t (Named u ms) = t.0

-- the types that a type is made of, in order; of a named type none
unfoldable pub parts : Kind → List TypeKey
parts k = cond (is_named k) [] (refs k ++ map (λ m. m.type) (members_of k))

pub record Pair : Type 0 where
  pub left : TypeKey
  pub right : TypeKey

abbrev pub same_pair : Pair → Pair → Bool
same_pair p q = same_type p.left q.left && same_type p.right q.right

-- parts that stand at the same place
abbrev pub corresponding : List TypeKey → List TypeKey → List Pair
corresponding [] ys = []
corresponding (x ∷ xs) [] = []
corresponding (x ∷ xs) (y ∷ ys) = record { left = x; right = y } ∷ corresponding xs ys

module _ (T : Table) where
  -- same identity, both embedded or neither, the same tag: "tags count"
  abbrev pub alike_member : Member → Member → Bool
  alike_member m n = same_member T m n && beq (is_embedded m.entity) (is_embedded n.entity) && same_bytes (tag_of m.entity) (tag_of n.entity)

  -- the members at the same places, one after the other
  abbrev pub alike : List Member → List Member → Bool
  alike [] [] = true
  alike [] (n ∷ ns) = false
  alike (m ∷ ms) [] = false
  alike (m ∷ ms) (n ∷ ns) = alike_member m n && alike ms ns

  -- two types that are no match whatever their parts are
  abbrev pub mismatched : TypeKey → Kind → TypeKey → Kind → Bool
  mismatched x k y l = not (eqb (kind_number k) (kind_number l) && eqb (own_number x k) (own_number y l) && alike (members_of k) (members_of l))

  unfoldable pub mismatch : Pair → Bool
  mismatch p = mismatched p.left (kind_at T p.left) p.right (kind_at T p.right)

  unfoldable pub pair_parts : Pair → List Pair
  pair_parts p = corresponding (parts (kind_at T p.left)) (parts (kind_at T p.right))

  -- "`yes` unless some finite chain of corresponding parts reaches a mismatch by Type identity"
  unfoldable pub identical : TypeKey → TypeKey → Bool
  identical x y = not (leads same_pair pair_parts mismatch (size T * size T) [] (record { left = x; right = y } ∷ []))
