-- Laws of the comparisons of bytes (specs/Bytes.antt): equality is equality, and the order is strict; and of the tests of one byte.
use mathlib.Core.Path.{◌≡◌, refl, sym, ap₂, ◌∙◌}
use mathlib.Core.Bool.{Bool, true, false, ◌&&◌, and-true, and-false}
use mathlib.Core.List.{[], ◌∷◌}
use mathlib.Core.Logic.{◌⊎◌, inl, inr}
use Prim.Native.Nat.{ℕ, ◌≤◌, ◌<◌}
use native.Mathlib.Omega.{arith}
use lib.Dec.{eqb, ltb, leb}
use borrow.Author.Tests.{eqb-true, eqb-false, eq-eqb, ne_eqb, ltb-true, ltb-false, lt-ltb, le-ltb, le-leb, lt-leb}
use Rattle.objects.specs.Lists.{Bytes}
use Rattle.objects.proofs.ListLaws.{cases, clash, either, and_l, and_r, or_l, or_r, or-true, or-false}
use Rattle.text.specs.Bytes.{same_bytes, below_bytes, between, is_capital, is_name_byte}

pub same_refl : (a : Bytes) → same_bytes a a ≡ true
same_refl [] = refl
same_refl (x ∷ xs) = rw (eq-eqb x x refl, same_refl xs)

pub same_true : (a b : Bytes) → same_bytes a b ≡ true → a ≡ b
same_true [] [] h = refl
same_true [] (y ∷ ys) h = clash h refl
same_true (x ∷ xs) [] h = clash h refl
same_true (x ∷ xs) (y ∷ ys) h =
    ap₂ (λ a b. a ∷ b) (eqb-true x y (and_l (eqb x y) (same_bytes xs ys) h)) (same_true xs ys (and_r (eqb x y) (same_bytes xs ys) h))

pub below_irrefl : (a : Bytes) → below_bytes a a ≡ false
below_irrefl [] = refl
below_irrefl (x ∷ xs) = rw (le-ltb x x (omega arith), eq-eqb x x refl, below_irrefl xs)

-- the first byte decides, or the rest
pub below-cons : (x y : ℕ) (xs ys : Bytes) → below_bytes (x ∷ xs) (y ∷ ys) ≡ true → (x < y) ⊎ ((x ≡ y) × (below_bytes xs ys ≡ true))
below-cons x y xs ys h =
    cases (ltb x y)
    (λ e. inl (ltb-true x y e))
    (λ e. let r : eqb x y && below_bytes xs ys ≡ true = rw e at h in
    inr (eqb-true x y (and_l (eqb x y) (below_bytes xs ys) r), and_r (eqb x y) (below_bytes xs ys) r))

pub below-first : (x y : ℕ) (xs ys : Bytes) → x < y → below_bytes (x ∷ xs) (y ∷ ys) ≡ true
below-first x y xs ys h = rw (lt-ltb x y h)

pub below_rest : (x y : ℕ) (xs ys : Bytes) → x ≡ y → below_bytes xs ys ≡ true → below_bytes (x ∷ xs) (y ∷ ys) ≡ true
below_rest x y xs ys e h = rw (eq-eqb x y e, h, or-true (ltb x y))

pub below-trans : (a b c : Bytes) → below_bytes a b ≡ true → below_bytes b c ≡ true → below_bytes a c ≡ true
below-trans [] [] c h k = clash h refl
below-trans [] (y ∷ ys) [] h k = clash k refl
below-trans [] (y ∷ ys) (z ∷ zs) h k = refl
below-trans (x ∷ xs) [] c h k = clash h refl
below-trans (x ∷ xs) (y ∷ ys) [] h k = clash k refl
below-trans (x ∷ xs) (y ∷ ys) (z ∷ zs) h k = go (below-cons x y xs ys h) (below-cons y z ys zs k) (below-trans xs ys zs)
  where
    go : (x < y) ⊎ ((x ≡ y) × (below_bytes xs ys ≡ true)) → (y < z) ⊎ ((y ≡ z) × (below_bytes ys zs ≡ true))
        → (below_bytes xs ys ≡ true → below_bytes ys zs ≡ true → below_bytes xs zs ≡ true) → below_bytes (x ∷ xs) (z ∷ zs) ≡ true
    go (inl p) (inl q) rest = below-first x z xs zs (omega arith)
    go (inl p) (inr q) rest = let e = q.0 in below-first x z xs zs (omega arith)
    go (inr p) (inl q) rest = let e = p.0 in below-first x z xs zs (omega arith)
    go (inr p) (inr q) rest = below_rest x z xs zs (p.0 ∙ q.0) (rest p.1 q.1)

-- of two texts one comes first, unless they are equal
pub below-connex : (a b : Bytes) → below_bytes a b ≡ false → (a ≡ b) ⊎ (below_bytes b a ≡ true)
below-connex [] [] h = inl refl
below-connex [] (y ∷ ys) h = clash refl h
below-connex (x ∷ xs) [] h = inr refl
below-connex (x ∷ xs) (y ∷ ys) h =
    cases (ltb y x)
    (λ e. inr (rw e))
    (λ e. cases (eqb x y)
    (λ f. either (below-connex xs ys (rw f at (or_r (ltb x y) (eqb x y && below_bytes xs ys) h)))
    (λ g. inl (ap₂ (λ a b. a ∷ b) (eqb-true x y f) g))
    (λ g. inr (below_rest y x ys xs (sym (eqb-true x y f)) g)))
    (λ f. let l = ltb-false x y (or_l (ltb x y) (eqb x y && below_bytes xs ys) h) in let g = ltb-false y x e in let n = eqb-false x y f in absurd (omega arith)))

-- ---- a byte of names, by the tests of its value

module _ (b : ℕ) where
  pub name-small : {t : Bool} → t ≡ between 97 122 b → t ≡ true → is_name_byte b ≡ true
  name-small p e = rw (sym p ∙ e, or-true (is_capital b))

  pub name-low : b < 58 → is_name_byte b ≡ leb 48 b
  name-low h =
      rw (lt-leb 65 b (omega arith), lt-leb 97 b (omega arith), le-leb b 57 (omega arith), ne_eqb b 95 (λ e. omega arith), and-true (leb 48 b), or-false (leb 48 b))

  pub name-middle : 58 ≤ b → b < 91 → is_name_byte b ≡ leb 65 b
  name-middle h k =
      rw (le-leb b 90 (omega arith), lt-leb 97 b (omega arith), lt-leb b 57 (omega arith), ne_eqb b 95 (λ e. omega arith), and-true (leb 65 b), and-false (leb 48 b), or-false (leb 65 b), or-false (leb 65 b), or-false (leb 65 b))

  pub name-high : 91 ≤ b → {t : Bool} → t ≡ between 97 122 b → t ≡ false → is_name_byte b ≡ eqb b 95
  name-high h p e =
      rw (lt-leb b 90 (omega arith), lt-leb b 57 (omega arith), sym p ∙ e, and-false (leb 65 b), and-false (leb 48 b))
