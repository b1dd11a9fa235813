-- Laws of the numbers of pairs of types (`pair` of specs/Pairs.antt), and of the words that their bits take.
use mathlib.Core.Path.{◌≡◌, sym, ap, ◌∙◌}
use mathlib.Core.Logic.{◌⊎◌, inl, inr, ◌≢◌}
use Prim.Native.Nat.{ℕ, zero, suc, ◌+◌, ◌*◌, ◌/◌, ◌<◌, ◌≤◌}
use native.Mathlib.Omega.{arith}
use native.Mathlib.Nat.{mul-suc, suc-mul, mul-le-mul, le_of_suc-le-suc, eq-or-lt_of_le}
use lib.Dec.{ltb}
use borrow.Author.Tests.{ltb-true, ltb-false, lt-ltb, le-ltb}
use Rattle.objects.specs.declared.TypeKey.{TypeKey}
use Rattle.objects.specs.Bounds.{pairs_of, pair_words}
use Rattle.objects.proofs.ListLaws.{cases, either}
use Rattle.objects.proofs.KeyLaws.{key-eq}
use Rattle.pair_marks.specs.Pairs.{pair}

-- ---- how many pairs there are

pub squares-up : (m n : ℕ) → m ≤ n → m * m ≤ n * n
squares-up m n h = mul-le-mul h h

square-more : (n : ℕ) → suc n * suc n ≡ n * n + (n + n + 1)
square-more n = suc-mul n (suc n) ∙ omega (arith, mul-suc n n)

-- no number is greater than its square
pub square-up : (n : ℕ) → n ≤ n * n
square-up zero = omega arith
square-up (suc n) = omega (arith, square-more n, square-up n)

-- one type more makes a pair with each of the others
pub pairs-more : (n : ℕ) → pairs_of (suc n) ≡ pairs_of n + n
pairs-more n = omega (arith, square-more n, square-up n)

pub pairs_below : (a c : ℕ) → a < c → pairs_of a + a ≤ pairs_of c
pairs_below a zero h = absurd (omega arith)
pairs_below a (suc c) h =
    either (eq-or-lt_of_le (le_of_suc-le-suc h))
    (λ e. rw e (omega (arith, pairs-more c)))
    (λ l. omega (arith, pairs-more c, pairs_below a c l))

pub pairs-up : (m n : ℕ) → m ≤ n → pairs_of m ≤ pairs_of n
pairs-up m n h = either (eq-or-lt_of_le h) (λ e. rw e (omega arith)) (λ l. omega (arith, pairs_below m n l))

pub words_more : (m n : ℕ) → m ≤ n → pair_words m ≤ pair_words n
words_more m n h = omega (arith, pairs-up m n h)

pub words_of : {words m : ℕ} (n : ℕ) → words ≡ pair_words m → m ≡ n → words ≡ pair_words n
words_of n e f = e ∙ ap pair_words f

-- ---- the number of a pair

module _ (x y : TypeKey) where
  pub pair-up : x.0 < y.0 → pair x y ≡ pairs_of y.0 + x.0
  unfolding pair
  pair-up h = rw (lt-ltb x.0 y.0 h)

  pub pair-down : y.0 ≤ x.0 → pair x y ≡ pairs_of x.0 + y.0
  unfolding pair
  pair-down h = rw (le-ltb x.0 y.0 h)

pub pair_turn : (x y : TypeKey) → pair x y ≡ pair y x
pair_turn x y =
    cases (ltb x.0 y.0)
    (λ p. let h = ltb-true x.0 y.0 p in pair-up x y h ∙ sym (pair-down y x (omega arith)))
    (λ p. either (eq-or-lt_of_le (ltb-false x.0 y.0 p))
    (λ e. let z : x ≡ y = key-eq x y (sym e) in rw z)
    (λ h. pair-down x y (omega arith) ∙ sym (pair-up y x h)))

-- of two types that are not one, one is the greater
ordered : (x y : TypeKey) → x.0 ≢ y.0 → (x.0 < y.0) ⊎ (y.0 < x.0)
ordered x y n =
    cases (ltb x.0 y.0)
    (λ p. inl (ltb-true x.0 y.0 p))
    (λ p. inr (let h = ltb-false x.0 y.0 p in omega (arith, n)))

-- the greater of two pairs' greater types makes the greater number
apart : (a b x y : TypeKey) → a.0 < b.0 → b.0 < y.0 → pair a b ≡ pair x y → x.0 < y.0 → ⊥
apart a b x y h l e k = omega (arith, pair-up a b h, pair-up x y k, pairs_below b.0 y.0 l)

-- the numbers of pairs named with the smaller first
up_one : (a b x y : TypeKey) → a.0 < b.0 → x.0 < y.0 → pair a b ≡ pair x y → (a ≡ x) × (b ≡ y)
up_one a b x y h k e =
    cases (ltb b.0 y.0)
    (λ p. absurd (apart a b x y h (ltb-true b.0 y.0 p) e k))
    (λ p. either (eq-or-lt_of_le (ltb-false b.0 y.0 p))
    (λ q. let z : b ≡ y = key-eq b y (sym q) in
    (key-eq a x (let w : pair a b ≡ pairs_of y.0 + a.0 = rw (← z) (pair-up a b h) in omega (arith, pair-up x y k)), z))
    (λ l. absurd (apart x y a b k l (sym e) h)))

-- a number is that of one pair
pub pair_one : (a b x y : TypeKey) → a.0 ≢ b.0 → x.0 ≢ y.0 → pair a b ≡ pair x y → ((a ≡ x) × (b ≡ y)) ⊎ ((a ≡ y) × (b ≡ x))
pair_one a b x y n m e =
    either (ordered a b n)
    (λ h. either (ordered x y m)
    (λ k. inl (up_one a b x y h k e))
    (λ k. inr (up_one a b y x h k (e ∙ pair_turn x y))))
    (λ h. either (ordered x y m)
    (λ k. let r = up_one b a x y h k (pair_turn b a ∙ e) in inr (r.1, r.0))
    (λ k. let r = up_one b a y x h k (pair_turn b a ∙ e ∙ pair_turn x y) in inl (r.1, r.0)))

-- ---- its bit has a word

up_in : (n : ℕ) (x y : TypeKey) → y.0 < n → x.0 < y.0 → pair x y / 32 < pair_words n
up_in n x y h k = omega (arith, pair-up x y k, pairs_below y.0 n h)

pub pair-in : (n : ℕ) (x y : TypeKey) → x.0 < n → y.0 < n → x.0 ≢ y.0 → pair x y / 32 < pair_words n
pair-in n x y hx hy m = either (ordered x y m) (λ k. up_in n x y hy k) (λ k. rw (pair_turn x y) (up_in n y x hx k))
