-- Labels of types, one word for each, by which classes of types are refined until they are those of identical types: types of one label are of one class, and the
-- label is the least number in it.
use Rattle.std.specs.Prelude.{◌≡◌, Bool, true, false, ◌&&◌, ℕ, zero, suc, ◌+◌, ◌-◌, ◌<◌, ◌≤◌, eqb, get_or}
use Rattle.objects.specs.declared.TypeKey.{TypeKey}
use Rattle.objects.specs.Lists.{Bytes}
use Rattle.objects.specs.Rows.{Words, type_count, table_of}
use Rattle.objects.specs.Table.{Table, size, type_key}
use Rattle.rules.specs.Identity.{identical}
use Rattle.rules.specs.StepIdentity.{same_step}
use Rattle.edits.specs.Tidy.{least}

-- x and y have one label
unfoldable pub same_label : Words → TypeKey → TypeKey → Bool
same_label labels x y = eqb (get_or labels x.0 0) (get_or labels y.0 0)

module _ (T : Table) (labels : Words) where
  -- they have, nothing at hand tells them apart, and corresponding parts have one label each
  unfoldable pub agrees : TypeKey → TypeKey → Bool
  agrees x y = same_label labels x y && same_step T (same_label labels) x y

  -- r is a type before t that agrees with t, or t if there is none
  pub record Fit (t r : ℕ) : Type 0 where
    pub most : r ≤ t
    pub found : r < t → agrees (type_key r) (type_key t) ≡ true
    pub none : r ≡ t → (v : ℕ) → v < t → agrees (type_key v) (type_key t) ≡ false

  -- the first n types are put into classes by what agrees
  pub record Classed (fresh : Words) (n : ℕ) : Type 0 where
    pub low : (t : ℕ) → t < n → get_or fresh t 0 ≤ t
    pub agree : (t : ℕ) → t < n → agrees (type_key (get_or fresh t 0)) (type_key t) ≡ true
    pub same : (t u : ℕ) → t < n → u < n → agrees (type_key t) (type_key u) ≡ true → get_or fresh t 0 ≡ get_or fresh u 0

-- what is known between rounds: labels are numbers of the class, and identical types are of one class
pub record Coarse (T : Table) (labels : Words) : Type 0 where
  pub low : (t : ℕ) → t < size T → get_or labels t 0 ≤ t
  pub kept : (t u : ℕ) → t < size T → u < size T → identical T (type_key t) (type_key u) ≡ true → get_or labels t 0 ≡ get_or labels u 0

-- how far the first n labels are below their types: it falls as classes are split
unfoldable pub slack : Words → ℕ → ℕ
slack labels zero = 0
slack labels (suc n) = (n - get_or labels n 0) + slack labels n

-- the first n words are those of another list; whether they were so before is told
pub record Renewed (before fresh after : Words) (n : ℕ) (changed : Bool) : Type 0 where
  pub taken : (t : ℕ) → t < n → get_or after t 0 ≡ get_or fresh t 0
  pub stays : changed ≡ false → (t : ℕ) → t < n → get_or fresh t 0 ≡ get_or before t 0
  pub moves : changed ≡ true → ((t : ℕ) → t < n → get_or before t 0 ≤ get_or fresh t 0) → ((t : ℕ) → t < n → get_or fresh t 0 ≤ t) → slack after n < slack before n

-- THE LEAST TWIN of each type: the least-numbered type that is identical to it
abbrev pub Twinned : Bytes → Words → Words → Type 0
Twinned text rows twins = (t : ℕ) → t < type_count rows → get_or twins t 0 ≡ (least (table_of text rows) (type_key t)).0
