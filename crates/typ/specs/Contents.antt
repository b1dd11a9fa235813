-- What the code reads off the rows to judge comparability: which kinds may be comparable at all, and what a type contains by value, by its place.
-- proofs/ContentLaws.antt ties each to the rules.
use Rattle.std.specs.Prelude.{◌≡◌, Bool, true, false, not, List, ◌≢◌, ℕ, ◌+◌, ◌<◌, eqb, get_or}
use Rattle.objects.specs.declared.TypeKey.{TypeKey}
use Rattle.objects.specs.declared.«Type».{«Type»}
use Rattle.objects.specs.Lists.{Bytes}
use Rattle.objects.specs.Table.{type_key, obj_key}
use Rattle.objects.specs.Rows.{Words, type_count, table_of}
use Rattle.objects.specs.Types.{type_read, member_type_read}
use Rattle.rules.specs.Comparable.{comparable}

-- comparable if all is that it contains by value: every basic but UntypedNil, and array, pointer, chan, struct, iface and named
unfoldable pub may_compare_in : «Type» → Bool
may_compare_in («Type».Basic k) = not (eqb k 25)
may_compare_in («Type».Array n e) = true
may_compare_in («Type».Slice e) = false
may_compare_in («Type».Pointer e) = true
may_compare_in («Type».Map k e) = false
may_compare_in («Type».Chan d e) = true
may_compare_in («Type».Tuple first count) = false
may_compare_in («Type».Func v p r) = false
may_compare_in («Type».Struct first count) = true
may_compare_in («Type».Iface first count) = true
may_compare_in («Type».Named u first count) = true

-- "By value (10): through array elements, fields and a named type's u."
unfoldable pub held_in : «Type» → ℕ
held_in («Type».Basic k) = 0
held_in («Type».Array n e) = 1
held_in («Type».Slice e) = 0
held_in («Type».Pointer e) = 0
held_in («Type».Map k e) = 0
held_in («Type».Chan d e) = 0
held_in («Type».Tuple first count) = 0
held_in («Type».Func v p r) = 0
held_in («Type».Struct first count) = count
held_in («Type».Iface first count) = 0
held_in («Type».Named u first count) = 1

unfoldable pub content_in : Words → «Type» → ℕ → TypeKey
content_in rows («Type».Basic k) i = type_key 0
content_in rows («Type».Array n e) i = e
content_in rows («Type».Slice e) i = type_key 0
content_in rows («Type».Pointer e) i = type_key 0
content_in rows («Type».Map k e) i = type_key 0
content_in rows («Type».Chan d e) i = type_key 0
content_in rows («Type».Tuple first count) i = type_key 0
content_in rows («Type».Func v p r) i = type_key 0
content_in rows («Type».Struct first count) i = member_type_read rows (obj_key (first + i))
content_in rows («Type».Iface first count) i = type_key 0
content_in rows («Type».Named u first count) i = u

module _ (rows : Words) where
  unfoldable pub may_compare : TypeKey → Bool
  may_compare t = may_compare_in (type_read rows t)

  unfoldable pub content_count : TypeKey → ℕ
  content_count t = held_in (type_read rows t)

  unfoldable pub content_at : TypeKey → ℕ → TypeKey
  content_at t i = content_in rows (type_read rows t) i

module _ (text : Bytes) (rows : Words) where
  -- every type met is comparable
  unfoldable pub MetComparable : List ℕ → Type 0
  MetComparable met = (t : ℕ) → t < type_count rows → get_or met t 0 ≢ 0 → comparable (table_of text rows) (type_key t) ≡ true

  -- t has been judged, and the types met are comparable
  pub record Judged (met : List ℕ) (t : TypeKey) (r : Bool) : Type 0 where
    pub judged : r ≡ comparable (table_of text rows) t
    pub sound : MetComparable met
