-- A type's rank stands in a word that the table does not show: storing one leaves the table and the order of the rows as they were.
use mathlib.Core.Path.{◌≡◌}
use Prim.Native.Nat.{ℕ, ◌+◌, ◌*◌, ◌<◌}
use native.Mathlib.Omega.{arith}
use lib.ListN.{set}
use Rattle.objects.specs.declared.TypeKey.{TypeKey}
use Rattle.objects.specs.Bounds.{row_words, types_at}
use Rattle.objects.specs.Rows.{Words, word_at, type_count, type_word}
use Rattle.objects.specs.Laid.{Laid, RankPut}
use Rattle.objects.proofs.Stores.{word-put, word_kept, type-kept, Kept, kept-none, kept_set}
use Rattle.objects.proofs.Unshown.{still-holds}

abbrev rank_at : TypeKey → ℕ
rank_at t = types_at + row_words * t.0 + 7

module _ (rows : Words) (t : TypeKey) (rank : ℕ) (laid : Laid rows) (here : t.0 < type_count rows) where
  count : (i : ℕ) → i < 4 → word_at (set rows (rank_at t) rank) i ≡ word_at rows i
  count i h = word_kept rows (rank_at t) rank i (λ e. omega arith)

  shown : (u : TypeKey) (j : ℕ) → u.0 < type_count rows → j < 7 → type_word (set rows (rank_at t) rank) u j ≡ type_word rows u j
  shown u j g h = type-kept rows (rank_at t) rank u j (λ e. omega arith)

  others : Kept 0 rows (set rows (rank_at t) rank)
  others = let l = laid in kept_set (rank_at t) rank kept-none (omega arith)

  pub rank-put : RankPut rows t rank (set rows (rank_at t) rank)
  unfolding type_word
  rank-put = let l = laid in record {
    holds = still-holds rows (set rows (rank_at t) rank) laid others count shown;
    here = word-put rows (rank_at t) rank (omega arith);
    elsewhere = λ u ne. word_kept rows (rank_at t) rank _ (λ e. ne (omega arith));
  }
