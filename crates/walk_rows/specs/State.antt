-- What holds of the records of kept walks, and what it is that rows are entered.
use Rattle.std.specs.Prelude.{◌≡◌, true, false, ◌||◌, List, [], ◌∷◌, ◌++◌, map, ℕ, zero, suc, ◌+◌, ◌*◌, ◌≤◌, ◌<◌, length, take}
use Rattle.objects.specs.Lists.{In, keep}
use Rattle.objects.specs.declared.TypeKey.{TypeKey}
use Rattle.objects.specs.Table.{Table, obj_key, is_embedded}
use Rattle.objects.specs.Types.{member_type_read}
use Rattle.objects.specs.Rows.{Words, type_count}
use Rattle.rules.specs.Ways.{Place}
use Rattle.ways.specs.Graph.{Step}
use Rattle.ways.specs.OfTable.{step_of}
use Rattle.multiples.specs.Records.{max_records, Record}
use Rattle.walks.specs.Kept.{count}
use Rattle.walks.specs.Rows.{Row, enter_all}
use Rattle.walk_rows.specs.declared.Above.{Above}
use Rattle.walk_rows.specs.Records.{row_of, rows_of, level_of, mark_of, first_of}

-- so many records have room for two of each type up to u
abbrev pub HasRoom : List Record → TypeKey → Type 0
HasRoom walk u = 2 * u.0 + 2 ≤ length walk

-- how many of the first n rows are of type u
unfoldable pub times_in : List Record → ℕ → TypeKey → ℕ
times_in walk n u = count u (map (λ r. r.type) (rows_of walk n))

-- no type has a row
abbrev pub Empty : List Record → Type 0
Empty walk = (t : TypeKey) → HasRoom walk t → first_of walk t ≡ 0

-- What the first record of type u and its mark tell: no row, one, or two.
pub record Told (walk : List Record) (n : ℕ) (u : TypeKey) : Type 0 where
  pub none : first_of walk u ≡ 0 → times_in walk n u ≡ 0
  pub first : (j : ℕ) → first_of walk u ≡ suc j → (j < n) × ((row_of walk j).type ≡ u)
  pub one : (j : ℕ) → first_of walk u ≡ suc j → mark_of walk j ≡ false → times_in walk n u ≡ 1
  pub two : (j : ℕ) → first_of walk u ≡ suc j → mark_of walk j ≡ true → times_in walk n u ≡ 2

-- The first n rows: each reached from a row no later than itself, at a level no later than itself, and the words of the types tell them.
pub record Rowed (walk : List Record) (n : ℕ) : Type 0 where
  pub most : length walk ≤ max_records
  pub typed : (j : ℕ) → j < n → HasRoom walk (row_of walk j).type
  pub back : (j : ℕ) → j < n → (row_of walk j).parent ≤ j
  pub low : (j : ℕ) → j < n → (row_of walk j).level ≤ j
  pub told : (u : TypeKey) → HasRoom walk u → Told walk n u

-- A record that may be put as row n: of a type that there is room for, reached from a row no later than itself, not marked, and below the rows before `from`.
pub record Fits (walk : List Record) (from n : ℕ) (e : Record) : Type 0 where
  pub typed : 2 * e.typ.0 + 2 ≤ length walk
  pub back : e.parent ≤ n
  pub low : e.level ≤ n
  pub plain : e.multiples ≡ 0
  pub order : from ≤ n
  pub earlier : (j : ℕ) → j < from → level_of walk j < e.level

-- The rows are R.
pub record Holds (walk : List Record) (n : ℕ) (R : List Row) : Type 0 where
  pub state : Rowed walk n
  pub rows : rows_of walk n ≡ R

-- their types are among so many
abbrev pub TypedIn : ℕ → List Row → Type 0
TypedIn types R = (r : Row) → In r R → r.type.0 < types

-- The rows of kept walks of a table of so many types, for which there is room.
pub record Walked (types : ℕ) (walk : List Record) (n : ℕ) : Type 0 where
  pub room : 2 * types ≤ length walk
  pub rowed : Rowed walk n
  pub typed : TypedIn types (rows_of walk n)

-- The rows X were entered, one after the other.
pub record Enters (types : ℕ) (walk : List Record) (n : ℕ) (X : List Row) (after : List Record) (end : ℕ) : Type 0 where
  pub state : Walked types after end
  pub rows : rows_of after end ≡ enter_all (rows_of walk n) X

-- no row has a later level than those from lo on
abbrev pub LastFrom : List Record → ℕ → ℕ → Type 0
LastFrom walk lo n = (i j : ℕ) → lo ≤ i → i < n → j < n → level_of walk j ≤ level_of walk i

-- ---- the rows below a row

-- what the rows below a row have of it: it stands before `from`, and all rows there are of earlier levels than theirs
pub record Below (walk : List Record) (n : ℕ) (up : Above) : Type 0 where
  pub inside : up.row < up.from
  pub order : up.from ≤ n
  pub low : up.level ≤ n
  pub earlier : (j : ℕ) → j < up.from → level_of walk j < up.level

-- the row below one that a step leads to
abbrev pub row_below : Above → Step → Row
row_below up s = record { type = s.target; parent = up.row; place = s.place; key = s.key; flag = up.flag || s.ptr; level = up.level }

-- the rows for the embedded fields among some members, below a row
unfoldable pub rows_below : Table → Above → List Place → List Row
rows_below T up ps = map (row_below up) (map (step_of T) (keep (λ p. is_embedded p.member.entity) ps))

-- the fields from a first one on have types of the table
abbrev pub FieldsTyped : Words → ℕ → ℕ → Type 0
FieldsTyped rows first total = (j : ℕ) → j < total → (member_type_read rows (obj_key (first + j))).0 < type_count rows

-- ---- the way to a row

-- the places of the d steps to row i, up through the records that it was reached from
unfoldable pub places_read : List Record → ℕ → ℕ → List ℕ
places_read walk zero i = []
places_read walk (suc d) i = places_read walk d (row_of walk i).parent ++ ((row_of walk i).place ∷ [])

-- So many places in front of a lent row are those of the way to row i, and a last one.
pub record Written (walk : List Record) (i last : ℕ) (places : Words) (times : ℕ) : Type 0 where
  pub long : times ≡ level_of walk i + 1
  pub read : take times places ≡ places_read walk (level_of walk i) i ++ (last ∷ [])
