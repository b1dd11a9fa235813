-- The kept walks as a search makes them: one growing list of rows, a level being the rows from one place on. A row more is entered unless its type has a row
-- of an earlier level or two rows. Which name is asked for plays no part.
use Rattle.std.specs.Prelude.{Bool, false, cond, ◌&&◌, ◌||◌, List, [], ◌∷◌, ◌++◌, map, ℕ, zero, suc, ◌-◌, ltb, length, get_or}
use Rattle.objects.specs.Lists.{any, flat}
use Rattle.objects.specs.declared.TypeKey.{TypeKey}
use Rattle.objects.specs.declared.ObjKey.{ObjKey}
use Rattle.objects.specs.Table.{type_key, obj_key, same_type}
use Rattle.rules.specs.Ways.{Walk}
use Rattle.ways.specs.Graph.{Graph}
use Rattle.walks.specs.Kept.{twice}

-- A type reached, the row that it was reached from, the place and the member of the embedded field taken there, whether a pointer was removed on the way,
-- and the level: how many steps.
pub record Row : Type 0 where
  pub type : TypeKey
  pub parent : ℕ
  pub place : ℕ
  pub key : ObjKey
  pub flag : Bool
  pub level : ℕ

abbrev pub root_row : TypeKey → Bool → Row
root_row t f = record { type = t; parent = 0; place = 0; key = obj_key 0; flag = f; level = 0 }

abbrev pub row : List Row → ℕ → Row
row R i = get_or R i (root_row (type_key 0) false)

-- n numbers from lo on
abbrev pub range : ℕ → ℕ → List ℕ
range lo zero = []
range lo (suc n) = lo ∷ range (suc lo) n

-- ---- a row as a walk

-- the places of the fields taken on the d steps to row i
abbrev pub places_to : List Row → ℕ → ℕ → List ℕ
places_to R zero i = []
places_to R (suc d) i = places_to R d (row R i).parent ++ ((row R i).place ∷ [])

-- their members, the last first
abbrev pub used_to : List Row → ℕ → ℕ → List ObjKey
used_to R zero i = []
used_to R (suc d) i = (row R i).key ∷ used_to R d (row R i).parent

abbrev pub walk_at : List Row → ℕ → Walk
walk_at R i = record { places = places_to R (row R i).level i; used = used_to R (row R i).level i; at = (row R i).type; flag = (row R i).flag }

-- all rows as walks, in their order
abbrev pub walks_of : List Row → List Walk
walks_of R = map (walk_at R) (range 0 (length R))

-- ---- entering

-- x's type has a row of an earlier level, or two rows
abbrev pub full : List Row → Row → Bool
full R x = any (λ r. same_type r.type x.type && ltb r.level x.level) R || twice (map (λ r. r.type) R) x.type

abbrev pub entered : List Row → Row → List Row
entered R x = cond (full R x) R (R ++ (x ∷ []))

abbrev pub enter_all : List Row → List Row → List Row
enter_all R [] = R
enter_all R (x ∷ X) = enter_all (entered R x) X

-- ---- level by level

-- the rows so far, and where the last level begins
pub record Stage : Type 0 where
  pub rows : List Row
  pub from : ℕ

-- the numbers of the last level's rows
abbrev pub level : Stage → List ℕ
level S = range S.from (length S.rows - S.from)

module _ (G : Graph) where
  -- what row i's type embeds, as rows of the next level
  abbrev pub embeds : List Row → ℕ → List Row
  embeds R i = map (λ s. record { type = s.target; parent = i; place = s.place; key = s.key; flag = (row R i).flag || s.ptr; level = suc (row R i).level }) (G.steps (row R i).type)

  -- one level more
  abbrev pub below : Stage → Stage
  below S = record { rows = enter_all S.rows (flat (embeds S.rows) (level S)); from = length S.rows }

  module _ (t : TypeKey) (f : Bool) where
    -- the levels 0 to d from type t on, f true if a pointer was removed to come to t
    abbrev pub stage : ℕ → Stage
    stage zero = record { rows = root_row t f ∷ []; from = 0 }
    stage (suc d) = below (stage d)

    -- THE ROWS: a level beyond as many as there are types has none
    abbrev pub kept_rows : List Row
    kept_rows = (stage G.size).rows
