-- A family of tests on the numbers below N that only lets in more from one turn to the next, and stays once a turn lets in no more, stays from turn N on.
use mathlib.Core.Path.{◌≡◌}
use mathlib.Core.Bool.{Bool, true}
use mathlib.Core.Logic.{◌⊎◌, inl, inr}
use Prim.Native.Nat.{ℕ, zero, suc, ◌+◌, ◌-◌, ◌≤◌, ◌<◌}
use native.Mathlib.Omega.{arith}
use native.Mathlib.Decide.{dec_lt}
use Rattle.objects.specs.Table.{bit}
use Rattle.objects.proofs.ListLaws.{cases, clash, either}

-- how many of the numbers below n pass
abbrev passing : (ℕ → Bool) → ℕ → ℕ
passing p zero = 0
passing p (suc n) = bit (p n) + passing p n

passing-most : (p : ℕ → Bool) (n : ℕ) → passing p n ≤ n
passing-most p zero = omega arith
passing-most p (suc n) = let ih = passing-most p n in cases (p n) (λ e. rw e (omega arith)) (λ e. rw e (omega arith))

module _ (p q : ℕ → Bool) (h : (x : ℕ) → p x ≡ true → q x ≡ true) where
  passing-least : (n : ℕ) → passing p n ≤ passing q n
  passing-least zero = omega arith
  passing-least (suc n) =
      let ih = passing-least n in
      cases (p n) (λ e. rw (e, h n e) (omega arith)) (λ e. cases (q n) (λ f. rw (e, f) (omega arith)) (λ f. rw (e, f) (omega arith)))

  -- no more are let in: the same are
  passing-stays : (n : ℕ) → passing q n ≤ passing p n → (x : ℕ) → x < n → q x ≡ true → p x ≡ true
  passing-stays zero le x l e = absurd (omega arith)
  passing-stays (suc n) le x l e =
      let least = passing-least n in
      cases (p n)
      (λ f. let k : 1 + passing q n ≤ 1 + passing p n = rw (f, h n f) at le in on (λ z. f) (λ j. passing-stays n (omega arith) x j e))
      (λ f. cases (q n)
      (λ g. let k : 1 + passing q n ≤ 0 + passing p n = rw (f, g) at le in absurd (omega arith))
      (λ g. let k : 0 + passing q n ≤ 0 + passing p n = rw (f, g) at le in on (λ z. clash z g) (λ j. passing-stays n (omega arith) x j e)))
    where
      on : (q n ≡ true → p n ≡ true) → (x < n → p x ≡ true) → p x ≡ true
      on last rest = elim (dec_lt x n) [ yes k ↦ rest k | no k ↦ let z : x ≡ n = omega arith in rw z (last (rw z at e)) ]

module _ (N : ℕ) (f : ℕ → ℕ → Bool) (more : (n x : ℕ) → f n x ≡ true → f (suc n) x ≡ true) where
  -- turn n lets in no more
  abbrev pub Stays : ℕ → Type 0
  Stays n = (x : ℕ) → x < N → f (suc n) x ≡ true → f n x ≡ true

  look : (n : ℕ) → ((k : ℕ) × (k < n) × Stays k) ⊎ (n ≤ passing (f n) N)
  look zero = inr (omega arith)
  look (suc n) = either (look n) (λ s. inl (s.0, (let h = s.1 in omega arith), s.2)) (λ h. elim (dec_lt (passing (f n) N) (passing (f (suc n)) N)) [
    | yes lt ↦ inr (omega arith)
    | no ge ↦ inl (n, omega arith, λ x i e. passing-stays (f n) (f (suc n)) (more n) N (omega arith) x i e)
  ])

  settled : (k : ℕ) × (k ≤ N) × Stays k
  settled = either (look (suc N)) (λ s. (s.0, (let h = s.1 in omega arith), s.2)) (λ h. let m = passing-most (f (suc N)) N in absurd (omega arith))

  pub settles : ((n : ℕ) → Stays n → Stays (suc n)) → (n : ℕ) → N ≤ n → Stays n
  settles on n h =
      let s = settled in
      let b = s.1 in
      let e : (n - s.0) + s.0 ≡ n = omega arith in
      rw (← e) (to (n - s.0) s.0 s.2)
    where
      to : (j k : ℕ) → Stays k → Stays (j + k)
      to zero k h = let e : zero + k ≡ k = omega arith in rw e h
      to (suc j) k h = let e : suc j + k ≡ suc (j + k) = omega arith in rw e (on (j + k) (to j k h))
