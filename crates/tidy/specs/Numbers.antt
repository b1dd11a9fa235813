-- What the lent words hold when types are numbered anew: `twins` the least twin of each type, `numbers` its new number.
use Rattle.std.specs.Prelude.{◌≡◌, cond, ℕ, zero, suc, ◌<◌, ◌≤◌, eqb, get_or}
use Rattle.objects.specs.Lists.{Bytes}
use Rattle.objects.specs.Rows.{Words, type_count, table_of}
use Rattle.objects.specs.Table.{type_key}
use Rattle.edits.specs.Tidy.{tidy_type}

-- no twin comes later, and a twin is its own
abbrev pub Backward : Words → ℕ → Type 0
Backward twins n = (t : ℕ) → t < n → (get_or twins t 0 ≤ t) × (get_or twins (get_or twins t 0) 0 ≡ get_or twins t 0)

-- how many of the types below n are their own twins
unfoldable pub own_below : Words → ℕ → ℕ
own_below twins zero = 0
own_below twins (suc n) = cond (eqb (get_or twins n 0) n) (suc (own_below twins n)) (own_below twins n)

-- each type's new number: how many remain before its twin
abbrev pub NewNumbers : Words → ℕ → Words → Type 0
NewNumbers twins n numbers = (t : ℕ) → t < n → get_or numbers t 0 ≡ own_below twins (get_or twins t 0)

-- what `tidy_type` says of each
abbrev pub Renumbered : Bytes → Words → Words → Type 0
Renumbered text rows numbers = (t : ℕ) → t < type_count rows → get_or numbers t 0 ≡ (tidy_type (table_of text rows) (type_key t)).0
