-- How many numbers below a bound pass a test (specs/Counts.antt).
use mathlib.Core.Path.{◌≡◌, refl}
use mathlib.Core.Bool.{Bool, true, false}
use mathlib.Core.Logic.{◌≢◌}
use Prim.Native.Nat.{ℕ, zero, suc, ◌<◌, ◌≤◌}
use native.Mathlib.Nat.{eq-or-lt_of_le, le_of_suc-le-suc}
use native.Mathlib.Omega.{arith}
use Rattle.objects.specs.Table.{bit}
use Rattle.objects.proofs.ListLaws.{either}
use Rattle.cycles.specs.Counts.{count}

bit-few : (b : Bool) → bit b ≤ 1
bit-few true = omega arith
bit-few false = omega arith

pub count-few : (p : ℕ → Bool) (n : ℕ) → count p n ≤ n
unfolding count
count-few p zero = omega arith
count-few p (suc n) = let h = count-few p n in let b = bit-few (p n) in omega arith

-- none passes
pub count_none : (p : ℕ → Bool) (n : ℕ) → ((i : ℕ) → i < n → p i ≡ false) → count p n ≡ 0
unfolding count
count_none p zero h = refl
count_none p (suc n) h = rw (h n (omega arith), count_none p n (λ i l. h i (omega arith)))

-- not all pass
pub count_less : (p : ℕ → Bool) (x n : ℕ) → x < n → p x ≡ false → count p n < n
unfolding count
count_less p x zero h f = absurd (omega arith)
count_less p x (suc n) h f =
    either (eq-or-lt_of_le (le_of_suc-le-suc h))
    (λ e. let g : p n ≡ false = rw e at f in let k = count-few p n in rw g (omega arith))
    (λ l. let k = count_less p x n l f in let b = bit-few (p n) in omega arith)

module _ (p q : ℕ → Bool) where
  pub count_same : (n : ℕ) → ((i : ℕ) → i < n → q i ≡ p i) → count q n ≡ count p n
  unfolding count
  count_same zero h = refl
  count_same (suc n) h = rw (h n (omega arith), count_same n (λ i l. h i (omega arith)))

  -- one more passes
  pub count-more : (x n : ℕ) → x < n → p x ≡ false → q x ≡ true → ((i : ℕ) → i ≢ x → q i ≡ p i) → count q n ≡ suc (count p n)
  unfolding count
  count-more x zero h f g same = absurd (omega arith)
  count-more x (suc n) h f g same =
      either (eq-or-lt_of_le (le_of_suc-le-suc h))
      (λ e. let f' : p n ≡ false = rw e at f in let g' : q n ≡ true = rw e at g in rw (f', g', count_same n (λ i l. same i (λ z. omega arith))) (omega arith))
      (λ l. rw (same n (λ z. omega arith), count-more x n l f g same) (omega arith))
