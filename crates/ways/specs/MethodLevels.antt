-- M as document 01 words it, level by level, with its own levels: "no way enters a named type that an earlier level has reached". Two of its sentences are open:
-- document 01's, which goscript keeps, and point 2's of document 02. With point 2 it is the rules' M (proofs/LevelSets.antt, `set-by-levels`).
use Rattle.std.specs.Prelude.{Bool, cond, not, ◌&&◌, ◌||◌, List, [], ◌∷◌, ◌++◌, map, ℕ, zero, suc}
use Rattle.objects.specs.Lists.{any, keep, flat}
use Rattle.objects.specs.declared.TypeKey.{TypeKey}
use Rattle.objects.specs.Table.{Table, same_type, size, is_method, has_ptr, is_named, is_iface, kind_at, bare, pointer_at, iface_under, named_pointer}
use Rattle.rules.specs.Members.{Identity}
use Rattle.rules.specs.Ways.{Walk, Way, member_of, start, onward, ends}
use Rattle.rules.specs.MethodSet.{method_flag, method_names}

-- The walks that a level has, and the types that earlier levels have reached.
pub record Level : Type 0 where
  pub reached : List TypeKey
  pub walks : List Walk

-- How a name stands after a level: neither given nor hidden, hidden for good, or given by a way.
pub data Standing : Type 0 where
  absent hidden : Standing
  given : Way → Standing

abbrev pub listed : Standing → List Way
listed absent = []
listed hidden = []
listed (given w) = w ∷ []

-- Which sentences hold: those of document 01, or those of point 2.
pub data Rule : Type 0 where
  as_goscript as_go : Rule

-- what one field alone makes of its name: nothing, or "one field at a level hides its name for all deeper levels"
abbrev pub by_field : Rule → Standing
by_field as_goscript = absent
by_field as_go = hidden

-- the interface that a pointer leads to, whose set is then empty: "a pointer directly to an iface", or "a pointer to any type with an interface under it"
abbrev pub to_interface : Rule → Table → TypeKey → Bool
to_interface as_goscript T t = pointer_at T t && is_iface (kind_at T (bare T t))
to_interface as_go T t = pointer_at T t && iface_under T (bare T t)

module _ (T : Table) where
  -- ---- levels: "Levels as in S, but no way enters a named type that an earlier level has reached"

  abbrev pub first_level : TypeKey → Level
  first_level t = record { reached = []; walks = start T t ∷ [] }

  abbrev pub reaches : Level → List TypeKey
  reaches L = map (λ w. w.at) L.walks ++ L.reached

  abbrev pub barred : List TypeKey → TypeKey → Bool
  barred reached t = is_named (kind_at T t) && any (same_type t) reached

  unfoldable pub below : Level → Level
  below L = record { reached = reaches L; walks = keep (λ w. not (barred (reaches L) w.at)) (flat (onward T) L.walks) }

module _ (rule : Rule) (T : Table) where
  -- ---- the rule of a level

  -- One way alone: "a pointer-receiver method with flag 0" hides its name, another method is given.
  abbrev pub alone : Way → Standing
  alone w = cond (is_method (member_of w).entity) (cond (has_ptr (member_of w).entity && not (method_flag T w)) hidden (given w)) (by_field rule)

  -- What the ways to one name on a level make of it. Two or more: "two methods, a method beside a field, a method reached twice, two fields, a field reached twice".
  unfoldable pub settled : List Way → Standing
  settled [] = absent
  settled (w ∷ []) = alone w
  settled (w ∷ v ∷ rest) = hidden

  -- ---- one name

  -- how it stands after k levels from L on: the first level that gives or hides it decides
  unfoldable pub standing_from : Identity → ℕ → Level → Standing
  standing_from q zero L = absent
  standing_from q (suc k) L = elim (settled (flat (ends T q) L.walks)) [
    | absent ↦ standing_from q k (below T L)
    | hidden ↦ hidden
    | given w ↦ given w
  ]

  -- a level beyond as many as there are types gives nothing: its types that have methods were all reached before
  unfoldable pub standing : Identity → TypeKey → Standing
  standing q t = standing_from q (size T) (first_level T t)

  -- ---- all names

  unfoldable pub set_by_levels : TypeKey → List Way
  set_by_levels t = cond (named_pointer T t || to_interface rule T t) [] (flat (λ q. listed (standing q t)) (method_names T))
