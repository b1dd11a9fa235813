-- Ranks while they are given: 0 is none yet, and each type that gets one gets the next, once all that it contains by value have theirs.
use Rattle.std.specs.Prelude.{◌≡◌, Bool, true, false, ℕ, suc, ◌≤◌, ◌<◌, ltb, Some, None}
use Rattle.std.specs.declared.option.Option as code
use Rattle.objects.specs.declared.TypeKey.{TypeKey}
use Rattle.objects.specs.Lists.{In}
use Rattle.objects.specs.Table.{type_key}
use Rattle.objects.specs.Rows.{Words, type_count, table_of}
use Rattle.objects.specs.Laid.{Laid, Holds}
use Rattle.rules.specs.Library.{rank_read}
use Rattle.cycles.specs.Counts.{count}
use Rattle.cycles.specs.Contents.{content_total, content_read, inside, Within}

-- the rows hold the table that the others held
abbrev pub Same : Words → Words → Type 0
Same rows after = Holds after (λ text. table_of text rows)

-- how many types have a rank
unfoldable pub ranked : Words → ℕ
ranked rows = count (λ t. ltb 0 (rank_read rows (type_key t))) (type_count rows)

-- Ranks fall from a type to what it contains; one without rank may contain any.
pub record Ranks (rows : Words) : Type 0 where
  pub laid : Laid rows
  pub within : Within rows
  pub falls : (t e : TypeKey) → t.0 < type_count rows → 0 < rank_read rows t → In e (inside rows t) → (0 < rank_read rows e) × (rank_read rows e < rank_read rows t)

-- They are below the next one, which is one more than there are.
pub record Ranking (rows : Words) (next : ℕ) : Type 0 where
  pub ranks : Ranks rows
  pub below : (t : TypeKey) → t.0 < type_count rows → rank_read rows t < next
  pub counted : next ≡ suc (ranked rows)

-- t contains a type without rank
abbrev pub Waits : Words → TypeKey → Type 0
Waits rows t = (e : TypeKey) × In e (inside rows t) × (rank_read rows e ≡ 0)

-- each of the first n types that has no rank waits for one
abbrev pub Stuck : Words → ℕ → Type 0
Stuck rows n = (t : TypeKey) → t.0 < n → rank_read rows t ≡ 0 → Waits rows t

-- ---- what the code does with them

-- the first n types are without rank
pub record Cleared (rows : Words) (n : ℕ) (after : Words) : Type 0 where
  pub same : Same rows after
  pub none : (t : TypeKey) → t.0 < n → rank_read after t ≡ 0

-- the place of the first content of t, from one on, that has no rank
abbrev pub FirstWaiting : Words → TypeKey → ℕ → code.Option ℕ → Type 0
FirstWaiting rows t from (Some i) =
    (i < content_total rows t) × (rank_read rows (content_read rows t i) ≡ 0) × ((j : ℕ) → from ≤ j → j < i → 0 < rank_read rows (content_read rows t j))
FirstWaiting rows t from None = (j : ℕ) → from ≤ j → j < content_total rows t → 0 < rank_read rows (content_read rows t j)

-- whether all that t contains has a rank
pub record AllRanked (rows : Words) (t : TypeKey) (r : Bool) : Type 0 where
  pub yes : r ≡ true → (e : TypeKey) → In e (inside rows t) → 0 < rank_read rows e
  pub no : r ≡ false → Waits rows t

-- t gets the next rank, or has one, or waits
pub record Given (rows : Words) (next : ℕ) (t : TypeKey) (after : Words) (next' : ℕ) : Type 0 where
  pub same : Same rows after
  pub ranking : Ranking after next'
  pub more : next ≤ next'
  pub left : next' ≡ next → (after ≡ rows) × (rank_read rows t ≡ 0 → Waits rows t)

-- one pass over the first n types: those that it leaves without rank wait, unless it gave a rank
pub record Passing (rows : Words) (next n : ℕ) (after : Words) (next' : ℕ) : Type 0 where
  pub same : Same rows after
  pub ranking : Ranking after next'
  pub more : next ≤ next'
  pub stuck : next' ≡ next → Stuck after n

-- ranks are given to some types, in whatever order
pub record Advanced (rows : Words) (after : Words) (next' : ℕ) : Type 0 where
  pub same : Same rows after
  pub ranking : Ranking after next'

-- passes until one gives no rank
pub record Peeled (rows after : Words) : Type 0 where
  pub same : Same rows after
  pub ranks : Ranks after
  pub stuck : Stuck after (type_count after)
