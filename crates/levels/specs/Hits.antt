-- The rows of a level whose type has the name, the ways that they make, and what the first two of them give.
use Rattle.std.specs.Prelude.{◌≡◌, Bool, true, false, List, [], ◌∷◌, map, ℕ, suc, ◌*◌, ◌-◌, ◌≤◌, ◌<◌, length}
use Rattle.std.specs.declared.option.Option as code
use Rattle.std.specs.Prelude.{Some, None}
use Rattle.objects.specs.Bounds.{max_places}
use Rattle.objects.specs.Lists.{Bytes, flat}
use Rattle.objects.specs.declared.ObjKey.{ObjKey}
use Rattle.objects.specs.Table.{Table}
use Rattle.objects.specs.Rows.{Words, member_at, table_of, type_count}
use Rattle.objects.specs.Types.{member_type_read}
use Rattle.text.specs.Bytes.{is_blank}
use Rattle.rules.specs.Members.{Identity}
use Rattle.rules.specs.Ways.{Way, Selected, received}
use Rattle.ways.specs.Graph.{ends}
use Rattle.ways.specs.OfTable.{graph}
use Rattle.selection.specs.declared.LookupResult.{LookupResult}
use Rattle.selection.specs.declared.Selection.{Selection}
use Rattle.selection.specs.Results.{result_meant, called_right, Typed, Selects}
use Rattle.multiples.specs.Records.{Record, max_records}
use Rattle.walks.specs.Rows.{walk_at, range}
use Rattle.walk_rows.specs.Records.{rows_of, level_of}
use Rattle.levels.specs.declared.Found.{Found}

-- What a search is lent: two records for each type of the table, and room for the places of two ways.
pub record Scratch (rows : Words) (walk : List Record) (places : Words) : Type 0 where
  pub room : 2 * type_count rows ≤ length walk
  pub most : length walk ≤ max_records
  pub long : 2 * max_places ≤ length places

-- ---- ways

-- the ways that the rows from lo on, of the first n, make to the name
unfoldable pub ways_from : Table → Identity → List Record → ℕ → ℕ → List Way
ways_from T q walk n lo = flat (ends (graph T) q) (map (walk_at (rows_of walk n)) (range lo (n - lo)))

-- the way to a row and a member of its type
unfoldable pub way_to : Bytes → Words → List Record → ℕ → Found → Way
way_to text rows walk n w = record { walk = walk_at (rows_of walk n) w.row; last = record { place = w.place; member = member_at text rows w.member } }

-- Of the rows from this one on, this one makes the first way. A type may have several blank fields, so the name is not blank.
pub record OwnAt (text : Bytes) (rows : Words) (q : Identity) (walk : List Record) (n : ℕ) (w : Found) : Type 0 where
  pub inside : w.row < n
  pub typed : (member_type_read rows w.member).0 < type_count rows
  pub ways : is_blank q.name ≡ false → ways_from (table_of text rows) q walk n w.row ≡ way_to text rows walk n w ∷ ways_from (table_of text rows) q walk n (suc w.row)

-- It is the first from lo on.
pub record HitAt (text : Bytes) (rows : Words) (q : Identity) (walk : List Record) (n lo : ℕ) (w : Found) : Type 0 where
  pub order : lo ≤ w.row
  pub left : ways_from (table_of text rows) q walk n lo ≡ ways_from (table_of text rows) q walk n w.row
  pub here : OwnAt text rows q walk n w

-- what a look for the next of them gives
unfoldable pub Tells : Bytes → Words → Identity → List Record → ℕ → ℕ → code.Option Found → Type 0
Tells text rows q walk n lo None = ways_from (table_of text rows) q walk n lo ≡ []
Tells text rows q walk n lo (Some w) = HitAt text rows q walk n lo w

-- ---- the first two

-- the ways of the first row that has the name and of the next, if there is one
unfoldable pub ways_told : Bytes → Words → List Record → ℕ → Found → code.Option Found → List Way
ways_told text rows walk n w None = way_to text rows walk n w ∷ []
ways_told text rows walk n w (Some v) = way_to text rows walk n w ∷ way_to text rows walk n v ∷ []

-- the next is of the same level
unfoldable pub Beside : List Record → Found → code.Option Found → Type 0
Beside walk w None = Unit {0}
Beside walk w (Some v) = level_of walk v.row ≡ level_of walk w.row

-- it is one of the first n rows
unfoldable pub Inside : ℕ → code.Option Found → Type 0
Inside n None = Unit {0}
Inside n (Some v) = v.row < n

-- ---- results

-- the result for one shortest way, whatever its places
pub record Alone (text : Bytes) (rows : Words) (m : ObjKey) (flag a : Bool) (r : LookupResult) : Type 0 where
  pub says : (first second : List ℕ) → result_meant text rows r first second ≡ received a (member_at text rows m) flag first
  pub called : called_right rows r ≡ true
  pub typed : (member_type_read rows m).0 < type_count rows → Typed rows r

-- The selection is the one that is due, if the name is not blank.
abbrev pub Answers : Bytes → Words → Identity → Selection → Words → Selected → Type 0
Answers text rows q r places due = is_blank q.name ≡ false → Selects text rows r places due

-- no level has the name
abbrev pub nothing_found : Selection
nothing_found = record { result = LookupResult.NotFound; count = 0 }
