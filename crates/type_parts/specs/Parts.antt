-- What the code reads off the rows to compare two types: the number that belongs to a type, its parts by their places, and a member's tag.
-- proofs/ReadLaws.antt and proofs/MemberRead.antt tie each to the rules. And how far two types may have been told apart (`Kin`, `Peers`).
use Rattle.std.specs.Prelude.{◌≡◌, Bool, false, cond, ◌&&◌, ℕ, zero, suc, ◌+◌, ◌<◌, eqb}
use Rattle.objects.specs.declared.TypeKey.{TypeKey}
use Rattle.objects.specs.declared.ObjKey.{ObjKey}
use Rattle.objects.specs.declared.«Type».{«Type»}
use Rattle.objects.specs.Table.{Table, size, kind_number, kind_at, type_key, obj_key, dir_number, bit}
use Rattle.objects.specs.Rows.{Words, member_word, element_at}
use Rattle.objects.specs.Types.{type_read, number_read, member_type_read, method_read}
use Rattle.rules.specs.Identity.{Pair, real_type, own_number, mismatch}

-- ---- by what the row says

unfoldable pub own_in : TypeKey → «Type» → ℕ
own_in t («Type».Basic k) = real_type k
own_in t («Type».Array n e) = n
own_in t («Type».Slice e) = 0
own_in t («Type».Pointer e) = 0
own_in t («Type».Map k e) = 0
own_in t («Type».Chan d e) = dir_number d
own_in t («Type».Tuple first count) = count
own_in t («Type».Func v p r) = bit v
own_in t («Type».Struct first count) = count
own_in t («Type».Iface first count) = count
own_in t («Type».Named u first count) = t.0

unfoldable pub count_in : «Type» → ℕ
count_in («Type».Basic k) = 0
count_in («Type».Array n e) = 1
count_in («Type».Slice e) = 1
count_in («Type».Pointer e) = 1
count_in («Type».Map k e) = 2
count_in («Type».Chan d e) = 1
count_in («Type».Tuple first count) = count
count_in («Type».Func v p r) = 2
count_in («Type».Struct first count) = count
count_in («Type».Iface first count) = count
count_in («Type».Named u first count) = 0

-- the first of two, or the second
abbrev pub either_at : ℕ → TypeKey → TypeKey → TypeKey
either_at zero a b = a
either_at (suc i) a b = b

unfoldable pub part_in : Words → «Type» → ℕ → TypeKey
part_in rows («Type».Basic k) i = type_key 0
part_in rows («Type».Array n e) i = e
part_in rows («Type».Slice e) i = e
part_in rows («Type».Pointer e) i = e
part_in rows («Type».Map k e) i = either_at i k e
part_in rows («Type».Chan d e) i = e
part_in rows («Type».Tuple first count) i = element_at rows (first + i)
part_in rows («Type».Func v p r) i = either_at i p r
part_in rows («Type».Struct first count) i = member_type_read rows (obj_key (first + i))
part_in rows («Type».Iface first count) i = member_type_read rows (obj_key (first + i))
part_in rows («Type».Named u first count) i = type_key 0

-- ---- of a type by its number

module _ (rows : Words) where
  unfoldable pub own_read : TypeKey → ℕ
  own_read t = own_in t (type_read rows t)

  unfoldable pub part_count : TypeKey → ℕ
  part_count t = count_in (type_read rows t)

  unfoldable pub part_at : TypeKey → ℕ → TypeKey
  part_at t i = part_in rows (type_read rows t) i

  -- ---- members

  -- how long a member's tag is: a method has none
  unfoldable pub tag_length : ObjKey → ℕ
  tag_length m = cond (method_read rows m) 0 (member_word rows m 6)

-- ---- two types

-- one kind and one own number, as they are read
unfoldable pub same_numbers : Words → TypeKey → TypeKey → Bool
same_numbers rows x y = eqb (number_read rows x) (number_read rows y) && eqb (own_read rows x) (own_read rows y)

-- what the rules call the pair of x and y
abbrev pub pair_of : TypeKey → TypeKey → Pair
pair_of x y = record { left = x; right = y }

module _ (T : Table) where
  -- types of one kind and one own number
  pub record Kin (x y : TypeKey) : Type 0 where
    pub left : x.0 < size T
    pub right : y.0 < size T
    pub kinds : kind_number (kind_at T x) ≡ kind_number (kind_at T y)
    pub owns : own_number x (kind_at T x) ≡ own_number y (kind_at T y)

  -- types that nothing but their parts can tell apart: kin whose members are called alike
  pub record Peers (x y : TypeKey) : Type 0 where
    pub left : x.0 < size T
    pub right : y.0 < size T
    pub alike : mismatch T (pair_of x y) ≡ false
