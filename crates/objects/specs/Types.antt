-- What the code reads off the rows of types and members: each reader as a function of the words, the kind that a `Type` of the code stands for, and
-- what a `Stage` of it found. proofs/RowLaws.antt ties each reader to the table that the rows hold.
use Rattle.std.specs.Prelude.{Bool, cond, ◌&&◌, ℕ, eqb, ltb}
use Rattle.std.proofs.Math.Option.{Option, none, some}
use Rattle.objects.specs.declared.TypeKey.{TypeKey}
use Rattle.objects.specs.declared.ObjKey.{ObjKey}
use Rattle.objects.specs.declared.PackageKey.{PackageKey}
use Rattle.std.specs.declared.option.Option as code
use Rattle.std.specs.Prelude.{Some, None}
use Rattle.objects.specs.declared.«Type».{«Type»}
use Rattle.objects.specs.Lists.{Bytes}
use Rattle.objects.specs.Table.{Kind, Basic, Array, Slice, Pointer, Map, Chan, Tuple, Func, Struct, Iface, Named, type_key}
use Rattle.objects.specs.Rows.{Words, type_word, member_word, package_from, dir_at, members_from, elements_from}

-- ---- a whole type

-- what a row with these words says
unfoldable pub type_from : (kind a b c first count : ℕ) → «Type»
type_from kind a b c first count =
    cond (eqb kind 0) («Type».Basic a)
    (cond (eqb kind 1) («Type».Array a (type_key b))
    (cond (eqb kind 2) («Type».Slice (type_key a))
    (cond (eqb kind 3) («Type».Pointer (type_key a))
    (cond (eqb kind 4) («Type».Map (type_key a) (type_key b))
    (cond (eqb kind 5) («Type».Chan (dir_at a) (type_key b))
    (cond (eqb kind 6) («Type».Tuple first count)
    (cond (eqb kind 7) («Type».Func (eqb a 1) (type_key b) (type_key c))
    (cond (eqb kind 8) («Type».Struct first count)
    (cond (eqb kind 9) («Type».Iface first count)
    («Type».Named (type_key a) first count))))))))))

unfoldable pub type_read : Words → TypeKey → «Type»
type_read rows t = type_from (type_word rows t 0) (type_word rows t 1) (type_word rows t 2) (type_word rows t 3) (type_word rows t 4) (type_word rows t 5)

module _ (text : Bytes) (rows : Words) where
  -- the kind that it stands for, with the members or elements that it points at
  unfoldable pub kind_meant : «Type» → Kind
  kind_meant («Type».Basic k) = Basic k
  kind_meant («Type».Array n e) = Array n e
  kind_meant («Type».Slice e) = Slice e
  kind_meant («Type».Pointer e) = Pointer e
  kind_meant («Type».Map k e) = Map k e
  kind_meant («Type».Chan d e) = Chan d e
  kind_meant («Type».Tuple first count) = Tuple (elements_from text rows first count)
  kind_meant («Type».Func v p r) = Func v p r
  kind_meant («Type».Struct first count) = Struct (members_from text rows first count)
  kind_meant («Type».Iface first count) = Iface (members_from text rows first count)
  kind_meant («Type».Named u first count) = Named u (members_from text rows first count)

-- ---- parts of a type

-- the place of a kind's word among the eleven: what is none of the first ten is the last
unfoldable pub number_of : ℕ → ℕ
number_of kind = cond (ltb kind 10) kind 10

module _ (rows : Words) where
  unfoldable pub number_read : TypeKey → ℕ
  number_read t = number_of (type_word rows t 0)

  unfoldable pub pointer_read : TypeKey → Bool
  pointer_read t = eqb (number_read t) 3

  unfoldable pub named_read : TypeKey → Bool
  named_read t = eqb (number_read t) 10

  unfoldable pub bare_read : TypeKey → TypeKey
  bare_read t = cond (pointer_read t) (type_key (type_word rows t 1)) t

  unfoldable pub under_read : TypeKey → TypeKey
  under_read t = cond (named_read t) (type_key (type_word rows t 1)) t

  unfoldable pub iface_read : TypeKey → Bool
  iface_read t = eqb (number_read (under_read t)) 9

  unfoldable pub named_pointer_read : TypeKey → Bool
  named_pointer_read t = named_read t && pointer_read (under_read t)

  -- the number of its first member (or element), and how many there are
  unfoldable pub first_read : TypeKey → ℕ
  first_read t = type_word rows t 4

  unfoldable pub total_read : TypeKey → ℕ
  total_read t = type_word rows t 5

  -- ---- parts of a member

  unfoldable pub member_type_read : ObjKey → TypeKey
  member_type_read m = type_key (member_word rows m 3)

  unfoldable pub package_read : ObjKey → code.Option PackageKey
  package_read m = package_from (member_word rows m 2)

  unfoldable pub embedded_read : ObjKey → Bool
  embedded_read m = eqb (member_word rows m 4) 1

  unfoldable pub method_read : ObjKey → Bool
  method_read m = ltb 1 (member_word rows m 4)

  unfoldable pub ptr_read : ObjKey → Bool
  ptr_read m = ltb 2 (member_word rows m 4)

-- ---- a stage of loading

-- the line that was found, if there is one
unfoldable pub found : code.Option ℕ → Option ℕ
found None = none
found (Some line) = some line
