-- The search for a chain that leads back: types are met once, in a queue, and each is looked at in turn.
use Rattle.std.specs.Prelude.{◌≡◌, Bool, true, false, ◌≢◌, ℕ, ◌≤◌, ◌<◌, ltb}
use Rattle.objects.specs.Bounds.{max_types}
use Rattle.objects.specs.declared.TypeKey.{TypeKey}
use Rattle.objects.specs.Lists.{In}
use Rattle.objects.specs.Table.{type_key, same_type}
use Rattle.objects.specs.Rows.{Words, word_at, type_count}
use Rattle.rules.specs.Chains.{Chain}
use Rattle.cycles.specs.Counts.{count}
use Rattle.cycles.specs.Contents.{inside, Back, content_read}

-- the answer to a question
pub record Decides (P : Type 0) (r : Bool) : Type 0 where
  pub yes : r ≡ true → P
  pub no : r ≡ false → P → ⊥

-- how many numbers are marked
unfoldable pub marked : Words → ℕ
marked marks = count (λ x. ltb 0 (word_at marks x)) max_types

-- Marked are those in the queue.
pub record Queued (marks queue : Words) (end : ℕ) : Type 0 where
  pub counted : end ≡ marked marks
  pub entry : (j : ℕ) → j < end → 0 < word_at marks (word_at queue j)
  pub place : (x : ℕ) → x < max_types → 0 < word_at marks x → (j : ℕ) × (j < end) × (word_at queue j ≡ x)

-- The queue goes on: what was in it and marked stays.
pub record Grown (marks queue : Words) (end : ℕ) (marks' queue' : Words) (end' : ℕ) : Type 0 where
  pub queued : Queued marks' queue' end'
  pub more : end ≤ end'
  pub kept : (j : ℕ) → j < end → word_at queue' j ≡ word_at queue j
  pub stays : (x : ℕ) → 0 < word_at marks x → 0 < word_at marks' x

-- one number is met
pub record Pushed (e : ℕ) (marks queue : Words) (end : ℕ) (marks' queue' : Words) (end' : ℕ) : Type 0 where
  pub grown : Grown marks queue end marks' queue' end'
  pub new : (j : ℕ) → end ≤ j → j < end' → word_at queue' j ≡ e
  pub here : 0 < word_at marks' e

-- the first n contents of x are met
pub record Meets (rows : Words) (x : TypeKey) (n : ℕ) (marks queue : Words) (end : ℕ) (marks' queue' : Words) (end' : ℕ) : Type 0 where
  pub grown : Grown marks queue end marks' queue' end'
  pub new : (j : ℕ) → end ≤ j → j < end' → In (type_key (word_at queue' j)) (inside rows x)
  pub all : (i : ℕ) → i < n → 0 < word_at marks' (content_read rows x i).0

-- all that x contains is marked
abbrev pub Met : Words → Words → TypeKey → Type 0
Met rows marks x = (e : TypeKey) → In e (inside rows x) → 0 < word_at marks e.0

-- The search from t: what is in the queue is reached from t, and the first `done` of it were looked at.
pub record Searched (rows : Words) (t : TypeKey) (marks queue : Words) (end done : ℕ) : Type 0 where
  pub queued : Queued marks queue end
  pub order : done ≤ end
  pub reached : (j : ℕ) → j < end → (word_at queue j < type_count rows) × (Chain (inside rows) (same_type t) (type_key (word_at queue j)) → Back rows t)
  pub first : Met rows marks t
  pub passed : (j : ℕ) → j < done → (word_at queue j ≢ t.0) × Met rows marks (type_key (word_at queue j))
