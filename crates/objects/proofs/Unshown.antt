-- Words that the table does not show, such as ranks and signs: rows that keep all others hold the same table and stay in order.
use mathlib.Core.Path.{◌≡◌}
use Prim.Native.Nat.{ℕ, ◌<◌}
use native.Mathlib.Omega.{arith}
use Rattle.objects.specs.declared.TypeKey.{TypeKey}
use Rattle.objects.specs.Lists.{Bytes}
use Rattle.objects.specs.Table.{type_key}
use Rattle.objects.specs.Rows.{Words, word_at, package_count, type_count, member_count_of, element_count, type_word, kind_read, table_of}
use Rattle.objects.specs.Laid.{end_of, Laid, Holds}
use Rattle.objects.proofs.Numbers.{each_same}
use Rattle.objects.proofs.Stores.{Kept}
use Rattle.objects.proofs.Keeping.{same-table, kept-words, kept-paths, kept-member-lines}
use Rattle.objects.proofs.Growing.{ends_same}

module _ (rows after : Words) (laid : Laid rows) (others : Kept 0 rows after) (count : (i : ℕ) → i < 4 → word_at after i ≡ word_at rows i)
    (shown : (u : TypeKey) (j : ℕ) → u.0 < type_count rows → j < 7 → type_word after u j ≡ type_word rows u j) where
  kind : (text : Bytes) (u : TypeKey) → u.0 < type_count rows → kind_read text after u ≡ kind_read text rows u
  unfolding kind_read
  kind text u h =
      rw
      (shown u 0 h (omega arith), shown u 1 h (omega arith), shown u 2 h (omega arith), shown u 3 h (omega arith), shown u 4 h (omega arith), shown u 5 h (omega arith))
      (kept-words others text _ _ _ _ _ _ (laid.within u h))

  held : (text : Bytes) → table_of text after ≡ table_of text rows
  unfolding table_of package_count type_count member_count_of
  held text =
      same-table
      (rw (count 0 (omega arith)) (kept-paths others text))
      (rw (count 1 (omega arith)) (each_same _ _ (type_count rows) (λ u h. kind text (type_key u) h)))
      (rw (count 1 (omega arith)) (each_same _ _ (type_count rows) (λ u h. shown (type_key u) 6 h (omega arith))))
      (rw (count 2 (omega arith)) (kept-member-lines others))

  ends : (k : ℕ) → end_of after k ≡ end_of rows k
  unfolding member_count_of element_count
  ends k = ends_same rows after k (count 2 (omega arith)) (count 3 (omega arith))

  ordered : Laid after
  unfolding package_count type_count member_count_of element_count
  ordered =
      record {
        short = rw (others.long, count 1 (omega arith)) laid.short;
        long = rw (others.long, count 2 (omega arith), count 3 (omega arith)) laid.long;
        packages = rw (count 0 (omega arith)) laid.packages;
        types = rw (count 1 (omega arith)) laid.types;
        members = rw (count 2 (omega arith)) laid.members;
        elements = rw (count 3 (omega arith)) laid.elements;
        within = λ u h.
            let g : u.0 < type_count rows = rw (count 1 (omega arith)) at h in
            rw (shown u 0 g (omega arith), shown u 4 g (omega arith), shown u 5 g (omega arith), ends (type_word rows u 0)) (laid.within u g);
        last = λ u h.
            let e = rw (count 1 (omega arith)) at h in
            let g : u.0 < type_count rows = omega arith in
            rw (shown u 0 g (omega arith), shown u 4 g (omega arith), shown u 5 g (omega arith), ends (type_word rows u 0)) (laid.last u e);
      }

  pub still-holds : Holds after (λ text. table_of text rows)
  still-holds = record { laid = ordered; held = held }
