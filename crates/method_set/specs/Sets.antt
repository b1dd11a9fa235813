-- A method set as words: the keys of its names in order, and off the rows and first hits what a line says of each.
use Rattle.std.specs.Prelude.{◌≡◌, Bool, not, ◌&&◌, ◌||◌, List, ◌∷◌, [], ◌++◌, map, ℕ, ◌≤◌, ◌<◌, eqb, length, take}
use Rattle.objects.specs.Bounds.{max_members, max_places}
use Rattle.objects.specs.Lists.{Bytes, In}
use Rattle.objects.specs.declared.TypeKey.{TypeKey}
use Rattle.objects.specs.Table.{obj_key, bit}
use Rattle.objects.specs.Rows.{Words, table_of}
use Rattle.objects.specs.Types.{pointer_read, bare_read, named_pointer_read, iface_read, ptr_read}
use Rattle.rules.specs.MethodSet.{method_set}
use Rattle.rules.specs.Answer.{Sel, sel_of}
use Rattle.multiples.specs.Records.{Record}
use Rattle.walk_rows.specs.Records.{row_of, level_of}
use Rattle.walk_rows.specs.State.{places_read}
use Rattle.first_hits.specs.declared.FirstHit.{FirstHit}
use Rattle.first_hits.specs.Hits.{Room, hit_row, hit_place, hit_hidden}

-- "a named type whose u is a pointer has an empty set"; "a pointer to any type with an interface under it has an empty set"
unfoldable pub empty_read : Words → TypeKey → Bool
empty_read rows t = named_pointer_read rows t || (pointer_read rows t && iface_read rows (bare_read rows t))

module _ (rows : Words) (walk : List Record) where
  -- the flag of a method of row i's type: "An interface's method has flag 1."
  unfoldable pub flag_read : ℕ → Bool
  flag_read i = (row_of walk i).flag || iface_read rows (row_of walk i).type

  module _ (hits : List FirstHit) where
    -- THE NAME UNDER KEY k IS IN THE SET: it is not hidden, and its method is none with pointer receiver and flag 0.
    unfoldable pub in_set : ℕ → Bool
    in_set k = not (eqb (hit_hidden hits k) 1) && not (ptr_read rows (obj_key k) && not (flag_read (hit_row hits k)))

    -- the numbers of its line `sel`: member, flag, places
    unfoldable pub sel_at : ℕ → List ℕ
    sel_at k = k ∷ bit (flag_read (hit_row hits k)) ∷ (places_read walk (level_of walk (hit_row hits k)) (hit_row hits k) ++ (hit_place hits k ∷ []))

-- ---- what callers know

unfoldable pub sel_numbers : Sel → List ℕ
sel_numbers s = s.member.key.0 ∷ bit s.flag ∷ s.places

-- The first n words of `names` are the keys of the names of the set, ascending by id; rows and hits say its lines, and no way is too long.
pub record SetHeld (text : Bytes) (rows : Words) (t : TypeKey) (walk : List Record) (names : Words) (hits : List FirstHit) (n : ℕ) : Type 0 where
  pub lines : map (sel_at rows walk hits) (take n names) ≡ map sel_numbers (map (sel_of (table_of text rows)) (method_set (table_of text rows) t))
  pub fits : (n ≤ max_members) × (n ≤ length names)
  pub short : (k : ℕ) → In k (take n names) → Room hits k × (level_of walk (hit_row hits k) < max_places)
