-- What falls from call to call of `comparable_impl`: how many types have a smaller rank. That is less than the number of types, so that no more calls than
-- there are types are ever nested; the rank itself has no such bound.
use Prim.Native.Nat.{ℕ, zero, suc, ◌+◌, ◌<◌, ◌≤◌}
use native.Mathlib.Nat.{eq-or-lt_of_le, le_of_suc-le-suc}
use native.Mathlib.Omega.{arith}
use lib.Dec.{ltb}
use borrow.Author.Tests.{lt-ltb, le-ltb, ltb-true}
use Rattle.objects.specs.declared.TypeKey.{TypeKey}
use Rattle.objects.specs.Table.{type_key, bit}
use Rattle.objects.specs.Rows.{Words, type_count}
use Rattle.objects.proofs.ListLaws.{cases, either}
use Rattle.rules.specs.Library.{rank_read}

module _ (rows : Words) where
  -- how many of the first n types have a rank below r
  unfoldable pub lower_of : ℕ → ℕ → ℕ
  lower_of r zero = 0
  lower_of r (suc n) = lower_of r n + bit (ltb (rank_read rows (type_key n)) r)

  lower-all : (r n : ℕ) → lower_of r n ≤ n
  unfolding lower_of
  lower-all r zero = omega arith
  lower-all r (suc n) =
      let h = lower-all r n in
      cases (ltb (rank_read rows (type_key n)) r) (λ e. rw e (omega arith)) (λ e. rw e (omega arith))

  module _ (r s : ℕ) (le : r ≤ s) where
    bit-more : (a : ℕ) → bit (ltb a r) ≤ bit (ltb a s)
    bit-more a =
        cases (ltb a r)
        (λ e. let k = ltb-true a r e in rw (e, lt-ltb a s (omega arith)) (omega arith))
        (λ e. rw e (omega arith))

    lower-more : (n : ℕ) → lower_of r n ≤ lower_of s n
    unfolding lower_of
    lower-more zero = omega arith
    lower-more (suc n) = omega (arith, lower-more n, bit-more (rank_read rows (type_key n)))

    -- x is one more
    lower-less : (x n : ℕ) → x < n → r ≤ rank_read rows (type_key x) → rank_read rows (type_key x) < s → lower_of r n < lower_of s n
    unfolding lower_of
    lower-less x zero h a b = absurd (omega arith)
    lower-less x (suc n) h a b =
        either (eq-or-lt_of_le (le_of_suc-le-suc h))
        (λ e. rw (← e, le-ltb (rank_read rows (type_key x)) r a, lt-ltb (rank_read rows (type_key x)) s b) (omega (arith, lower-more x)))
        (λ l. omega (arith, lower-less x n l a b, bit-more (rank_read rows (type_key n))))

  unfoldable pub lower : TypeKey → ℕ
  lower t = lower_of (rank_read rows t) (type_count rows)

  pub lower-falls : (e t : TypeKey) → e.0 < type_count rows → rank_read rows e < rank_read rows t → lower e < lower t
  unfolding lower
  lower-falls e t h l = lower-less (rank_read rows e) (rank_read rows t) (omega arith) e.0 (type_count rows) h (omega arith) l

  -- AT MOST AS MANY LEVELS AS TYPES
  pub lower-few : (t : TypeKey) → t.0 < type_count rows → lower t < type_count rows
  unfolding lower
  lower-few t h =
      let l = lower-less (rank_read rows t) (suc (rank_read rows t)) (omega arith) t.0 (type_count rows) h (omega arith) (omega arith) in
      omega (arith, lower-all (suc (rank_read rows t)) (type_count rows))
