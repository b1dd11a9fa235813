-- All levels of the kept walks.
use Rattle.std.specs.Prelude.{◌≡◌, List, ℕ, ◌≤◌, ◌<◌}
use Rattle.objects.specs.Bounds.{max_places}
use Rattle.objects.specs.Rows.{Words, type_count}
use Rattle.multiples.specs.Records.{Record}
use Rattle.walks.specs.Rows.{Row}
use Rattle.walk_rows.specs.Records.{rows_of, level_of}
use Rattle.walk_rows.specs.State.{Walked}

-- The first n records are the rows R, level by level, and a way to one of them and a member has no more places than a way may have.
pub record Keeps (rows : Words) (walk : List Record) (n : ℕ) (R : List Row) : Type 0 where
  pub state : Walked (type_count rows) walk n
  pub held : rows_of walk n ≡ R
  pub short : (i : ℕ) → i < n → level_of walk i < max_places
  pub climbs : (i j : ℕ) → i ≤ j → j < n → level_of walk i ≤ level_of walk j
