-- Two texts compared, four bytes at once or byte by byte: how the loops go on, and how they end.
use mathlib.Core.Path.{◌≡◌, refl, sym, ap, ◌∙◌}
use mathlib.Core.Bool.{Bool, true, false, cond, not, ◌||◌}
use mathlib.Core.List.{[], ◌∷◌}
use mathlib.Core.Logic.{◌⊎◌, inl, inr}
use Prim.Native.Nat.{ℕ, min, suc, ◌+◌, ◌-◌, ◌*◌, ◌/◌, ◌≤◌, ◌<◌}
use native.Mathlib.Omega.{arith}
use lib.Dec.{eqb, ltb, leb}
use lib.ListN.{length, get_or, take, drop, drop_of_length-le, length-drop}
use lib.Seq.{take_all, take-nil}
use borrow.Author.Tests.{leb-true, leb-false, eq-eqb, ne_eqb, lt-ltb, le-ltb, eqb-true, eqb-false, ltb-true, ltb-false}
use Rattle.objects.specs.Lists.{Bytes}
use Rattle.objects.proofs.ListLaws.{cases, clash, either}
use Rattle.std.specs.declared.cmp.Ordering.{Ordering}
use Rattle.std.specs.Cmp.Lexicographic.{slice_cmp}
use Rattle.std.specs.Ordering.{is_lt, nat_cmp}
use Rattle.std.specs.declared.cmp.Ordering.TheVariants.{Less, Equal, Greater}
use Rattle.text.specs.Bytes.{same_bytes, below_bytes}
use Rattle.text.specs.Compare.{order_of, four_of, DifferFour}
use Rattle.text.proofs.ByteLaws.{same_true}
use Rattle.text.proofs.PartLaws.{drop_at}

-- ---- texts of different lengths, or with a byte that differs, and texts of which no byte does

pub same_length : (a b : Bytes) → (length a ≡ length b → ⊥) → same_bytes a b ≡ false
same_length a b n = cases (same_bytes a b) (λ e. absurd (n (ap length (same_true a b e)))) (λ e. e)

pub parts-length : {a b u v : Bytes} → a ≡ u → b ≡ v → (length a ≡ length b → ⊥) → same_bytes u v ≡ false
parts-length {a} {b} p q n = rw (← p, ← q) (same_length a b n)

pub same_not : (a b : Bytes) (k : ℕ) → (get_or a k 0 ≡ get_or b k 0 → ⊥) → same_bytes a b ≡ false
same_not a b k n = cases (same_bytes a b) (λ e. absurd (n (ap (λ x. get_or x k 0) (same_true a b e)))) (λ e. e)

pub same-all : (a b : Bytes) → length a ≡ length b → ((k : ℕ) → k < length a → get_or a k 0 ≡ get_or b k 0) → same_bytes a b ≡ true
same-all [] [] e h = refl
same-all [] (y ∷ b) e h = absurd (omega arith)
same-all (x ∷ a) [] e h = absurd (omega arith)
same-all (x ∷ a) (y ∷ b) e h =
    let z : x ≡ y = h 0 (omega arith) in
    rw (eq-eqb x y z) (same-all a b (omega arith) (λ k l. h (suc k) (omega arith)))

-- ---- four bytes as one number

pub four_is : {a b c d : ℕ} (x y z w : ℕ) → a ≡ x → b ≡ y → c ≡ z → d ≡ w → a * 16_777_216 + b * 65_536 + c * 256 + d ≡ four_of x y z w
unfolding four_of
four_is x y z w p q r s = rw (p, q, r, s)

-- the number is one for each choice of the bytes
module _ {a b c d x y z w : ℕ} (la : a < 256) (lb : b < 256) (lc : c < 256) (ld : d < 256) (lx : x < 256) (ly : y < 256) (lz : z < 256) (lw : w < 256) where
  four_bytes : four_of a b c d ≡ four_of x y z w → (a ≡ x) × (b ≡ y) × (c ≡ z) × (d ≡ w)
  unfolding four_of
  four_bytes e = (omega arith, omega arith, omega arith, omega arith)

  -- the first byte that differs is the smaller one
  four-first : four_of a b c d < four_of x y z w → (a < x) ⊎ ((a ≡ x) × ((b < y) ⊎ ((b ≡ y) × ((c < z) ⊎ ((c ≡ z) × (d < w))))))
  unfolding four_of
  four-first l =
      cases (ltb a x)
      (λ e. inl (ltb-true a x e))
      (λ e. let p = ltb-false a x e in
      inr (
        omega arith,
        cases (ltb b y)
            (λ f. inl (ltb-true b y f))
            (λ f. let q = ltb-false b y f in
            inr (
              omega arith,
              cases (ltb c z)
                  (λ g. inl (ltb-true c z g))
                  (λ g. let r = ltb-false c z g in inr (omega arith, omega arith)),
            )),
      ))

-- one of the four places from i on
four-places : (P : ℕ → Type 0) (i : ℕ) → P i → P (i + 1) → P (i + 2) → P (i + 3) → (k : ℕ) → i ≤ k → k < i + 4 → P k
four-places P i p q r s k l h =
    cases (eqb k i)
    (λ e. let z = eqb-true k i e in rw z p)
    (λ e. let n = eqb-false k i e in
    cases (eqb k (i + 1))
    (λ f. let z = eqb-true k (i + 1) f in rw z q)
    (λ f. let m = eqb-false k (i + 1) f in
    cases (eqb k (i + 2))
    (λ g. let z = eqb-true k (i + 2) g in rw z r)
    (λ g. let o = eqb-false k (i + 2) g in let z : k ≡ i + 3 = omega arith in rw z s)))

-- the four bytes from i on, of texts of which each byte is one
module _ (a b : Bytes) (i : ℕ) (la : (k : ℕ) → get_or a k 0 < 256) (lb : (k : ℕ) → get_or b k 0 < 256) {x y : ℕ}
    (ex : x ≡ four_of (get_or a i 0) (get_or a (i + 1) 0) (get_or a (i + 2) 0) (get_or a (i + 3) 0))
    (ey : y ≡ four_of (get_or b i 0) (get_or b (i + 1) 0) (get_or b (i + 2) 0) (get_or b (i + 3) 0)) where
  pub differ-four : DifferFour a b i (not (eqb x y))
  differ-four = record {
    yes = λ e. cases (same_bytes a b)
        (λ s. let z = same_true a b s in
        let w : x ≡ y = ex ∙ ap (λ l. four_of (get_or l i 0) (get_or l (i + 1) 0) (get_or l (i + 2) 0) (get_or l (i + 3) 0)) z ∙ sym ey in
        clash (rw (eq-eqb x y w) at e) refl)
        (λ s. s);
    no = λ e. cases (eqb x y)
        (λ s. let z = eqb-true x y s in
        let r = four_bytes (la i) (la (i + 1)) (la (i + 2)) (la (i + 3)) (lb i) (lb (i + 1)) (lb (i + 2)) (lb (i + 3)) (sym ex ∙ z ∙ ey) in
        four-places (λ k. get_or a k 0 ≡ get_or b k 0) i r.0 r.1 r.2 r.3)
        (λ s. clash refl (rw s at e));
  }

-- ---- the bytes of short texts, and of those that agree at their end

-- of fewer than four bytes, each is the first, the middle or the last
pub same-three : (a b : Bytes) → length a ≡ length b → length a < 4 → get_or a 0 0 ≡ get_or b 0 0 → get_or a (length a / 2) 0 ≡ get_or b (length a / 2) 0
    → get_or a (length a - 1) 0 ≡ get_or b (length a - 1) 0 → same_bytes a b ≡ true
same-three a b e l p q r =
    same-all a b e (λ k h.
    cases (eqb k 0)
    (λ s. let z = eqb-true k 0 s in rw z p)
    (λ s. let n = eqb-false k 0 s in
    cases (eqb k (length a / 2))
    (λ t. let z = eqb-true k (length a / 2) t in rw z q)
    (λ t. let m = eqb-false k (length a / 2) t in let z : k ≡ length a - 1 = omega arith in rw z r)))

-- n bytes are alike, and behind them those of the last four
pub same-joined : (a b : Bytes) → length a ≡ length b → (n : ℕ) → ((k : ℕ) → k < n → get_or a k 0 ≡ get_or b k 0) → length a - 4 ≤ n
    → ((k : ℕ) → length a - 4 ≤ k → k < length a - 4 + 4 → get_or a k 0 ≡ get_or b k 0) → same_bytes a b ≡ true
same-joined a b e n p l q =
    same-all a b e (λ k h. cases (ltb k n) (λ s. p k (ltb-true k n s)) (λ s. let m = ltb-false k n s in q k (omega arith) (omega arith)))

-- four more are alike
pub alike-more : (a b : Bytes) (n : ℕ) → ((k : ℕ) → k < n → get_or a k 0 ≡ get_or b k 0) → ((k : ℕ) → n ≤ k → k < n + 4 → get_or a k 0 ≡ get_or b k 0)
    → (k : ℕ) → k < n + 4 → get_or a k 0 ≡ get_or b k 0
alike-more a b n p q k h = cases (ltb k n) (λ s. p k (ltb-true k n s)) (λ s. q k (ltb-false k n s) h)

-- ---- n bytes from a place

module _ (s : Bytes) (at n : ℕ) where
  -- the bytes from a place within the text, as many as are there
  pub span-is : {from m : ℕ} → from ≡ min at (length s) → m ≡ min n (length s - from) → take (from + m - from) (drop from s) ≡ take n (drop at s)
  span-is {from} {m} pf pm =
      let z : from + m - from ≡ m = omega arith in
      rw z (cases (leb (length s) at)
      (λ e. let h = leb-true (length s) at e in
      let q : from ≡ length s = omega (arith, pf) in
      let k : length s ≤ from = omega arith in
      rw (drop_of_length-le s k, drop_of_length-le s h) (take-nil m ∙ sym (take-nil n)))
      (λ e. let h = leb-false (length s) at e in
      let q : from ≡ at = omega (arith, pf) in
      let l = length-drop at s in
      rw q (cases (leb n (length s - at))
      (λ f. let k : m ≡ n = let h2 = leb-true n (length s - at) f in omega (arith, pm) in rw k)
      (λ f. let h2 = leb-false n (length s - at) f in
      take_all m (drop at s) (omega (arith, pm)) ∙ sym (take_all n (drop at s) (omega arith))))))

-- ---- the loops: both texts from i on

module _ (a b : Bytes) (i : ℕ) where
  pub order-end : length a ≤ i → length b ≤ i → order_of (drop i a) (drop i b) ≡ Equal
  unfolding order_of
  order-end h k = rw (drop_of_length-le a h, drop_of_length-le b k)

  pub order-part : length a ≤ i → i < length b → order_of (drop i a) (drop i b) ≡ Less
  unfolding order_of
  order-part h k = rw (drop_of_length-le a h, drop_at b i k)

  pub order-whole : i < length a → length b ≤ i → order_of (drop i a) (drop i b) ≡ Greater
  unfolding order_of
  order-whole h k = rw (drop_at a i h, drop_of_length-le b k)

  module _ (h : i < length a) (k : i < length b) where
    pub order-less : get_or a i 0 < get_or b i 0 → order_of (drop i a) (drop i b) ≡ Less
    unfolding order_of
    order-less l = rw (drop_at a i h, drop_at b i k, lt-ltb (get_or a i 0) (get_or b i 0) l)

    pub order-greater : get_or b i 0 < get_or a i 0 → order_of (drop i a) (drop i b) ≡ Greater
    unfolding order_of
    order-greater l =
        let n : get_or b i 0 ≤ get_or a i 0 = omega arith in
        rw (drop_at a i h, drop_at b i k, le-ltb (get_or a i 0) (get_or b i 0) n, ne_eqb (get_or a i 0) (get_or b i 0) (λ e. omega arith))

    pub order-next : get_or b i 0 ≤ get_or a i 0 → get_or a i 0 ≤ get_or b i 0 → order_of (drop i a) (drop i b) ≡ order_of (drop (i + 1) a) (drop (i + 1) b)
    unfolding order_of
    order-next l m =
        let e : get_or a i 0 ≡ get_or b i 0 = omega arith in
        rw (drop_at a i h, drop_at b i k, le-ltb (get_or a i 0) (get_or b i 0) l, eq-eqb (get_or a i 0) (get_or b i 0) e)

-- four bytes at once, of texts of which each byte is one
module _ (a b : Bytes) (i : ℕ) (h : i + 4 ≤ length a) (k : i + 4 ≤ length b) (la : (j : ℕ) → get_or a j 0 < 256) (lb : (j : ℕ) → get_or b j 0 < 256) {x y : ℕ}
    (ex : x ≡ four_of (get_or a i 0) (get_or a (i + 1) 0) (get_or a (i + 2) 0) (get_or a (i + 3) 0))
    (ey : y ≡ four_of (get_or b i 0) (get_or b (i + 1) 0) (get_or b (i + 2) 0) (get_or b (i + 3) 0)) where
  -- n bytes are alike, so that the order is told behind them
  abbrev Past : ℕ → Type 0
  Past n = order_of (drop i a) (drop i b) ≡ order_of (drop (i + n) a) (drop (i + n) b)

  past_first : get_or a i 0 ≡ get_or b i 0 → Past 1
  past_first z = order-next a b i (omega arith) (omega arith) (omega arith) (omega arith)

  past_more : (n o : ℕ) → n + 1 ≡ o → n < 4 → get_or a (i + n) 0 ≡ get_or b (i + n) 0 → Past n → Past o
  past_more n o e l z f =
      let w : i + n + 1 ≡ i + o = omega arith in
      f ∙ (rw w at (order-next a b (i + n) (omega arith) (omega arith) (omega arith) (omega arith)))

  past-less : (n : ℕ) → n < 4 → Past n → get_or a (i + n) 0 < get_or b (i + n) 0 → order_of (drop i a) (drop i b) ≡ Less
  past-less n l f z = f ∙ order-less a b (i + n) (omega arith) (omega arith) z

  past-greater : (n : ℕ) → n < 4 → Past n → get_or b (i + n) 0 < get_or a (i + n) 0 → order_of (drop i a) (drop i b) ≡ Greater
  past-greater n l f z = f ∙ order-greater a b (i + n) (omega arith) (omega arith) z

  pub four-less : x < y → order_of (drop i a) (drop i b) ≡ Less
  four-less l =
      either (four-first (la i) (la (i + 1)) (la (i + 2)) (la (i + 3)) (lb i) (lb (i + 1)) (lb (i + 2)) (lb (i + 3)) (rw (ex, ey) at l))
      (λ p. order-less a b i (omega arith) (omega arith) p)
      (λ p. let f = past_first p.0 in
      either p.1 (λ q. past-less 1 (omega arith) f q)
      (λ q. let g = past_more 1 2 refl (omega arith) q.0 f in
      either q.1 (λ r. past-less 2 (omega arith) g r)
      (λ r. past-less 3 (omega arith) (past_more 2 3 refl (omega arith) r.0 g) r.1)))

  pub four-greater : y < x → order_of (drop i a) (drop i b) ≡ Greater
  four-greater l =
      either (four-first (lb i) (lb (i + 1)) (lb (i + 2)) (lb (i + 3)) (la i) (la (i + 1)) (la (i + 2)) (la (i + 3)) (rw (ex, ey) at l))
      (λ p. order-greater a b i (omega arith) (omega arith) p)
      (λ p. let f = past_first (sym p.0) in
      either p.1 (λ q. past-greater 1 (omega arith) f q)
      (λ q. let g = past_more 1 2 refl (omega arith) (sym q.0) f in
      either q.1 (λ r. past-greater 2 (omega arith) g r)
      (λ r. past-greater 3 (omega arith) (past_more 2 3 refl (omega arith) (sym r.0) g) r.1)))

  pub four-next : y ≤ x → x ≤ y → Past 4
  four-next l m =
      let z : x ≡ y = omega arith in
      let r = four_bytes (la i) (la (i + 1)) (la (i + 2)) (la (i + 3)) (lb i) (lb (i + 1)) (lb (i + 2)) (lb (i + 3)) (sym ex ∙ z ∙ ey) in
      past_more 3 4 refl (omega arith) r.3 (past_more 2 3 refl (omega arith) r.2 (past_more 1 2 refl (omega arith) r.1 (past_first r.0)))

-- the other way round
pub order-above : (a b : Bytes) → order_of a b ≡ Greater → below_bytes b a ≡ true
unfolding order_of
order-above [] [] h = let z : ◌≡◌ {A = Bool} true false = cc in clash refl z
order-above [] (y ∷ b) h = let z : ◌≡◌ {A = Bool} true false = cc in clash refl z
order-above (x ∷ a) [] h = refl
order-above (x ∷ a) (y ∷ b) h =
    cases (ltb x y)
    (λ e. let q : ◌≡◌ {A = Ordering} Less Greater = rw e at h in let z : ◌≡◌ {A = Bool} true false = cc in clash refl z)
    (λ e. cases (eqb x y)
    (λ f. let g = eqb-true x y f in
    rw (← g, eq-eqb x x refl) (or-right-true (ltb x x) (order-above a b (rw (e, f) at h))))
    (λ f. let g = eqb-false x y f in let l = ltb-false x y e in let m : y < x = omega arith in rw (lt-ltb y x m)))
  where
    or-right-true : (t : Bool) {u : Bool} → u ≡ true → t || u ≡ true
    or-right-true true e = refl
    or-right-true false e = e

-- ---- below, by the order

less-is : (t u : Bool) → cond t Less (cond u Equal Greater) ≡ Less → true ≡ t
less-is true u h = refl
less-is false true h = let z : ◌≡◌ {A = Bool} true false = cc in z
less-is false false h = let z : ◌≡◌ {A = Bool} true false = cc in z

not-less : (t u : Bool) → (cond t Less (cond u Equal Greater) ≡ Less → ⊥) → false ≡ t
not-less true u h = absurd (h refl)
not-less false u h = refl

module _ (a b : Bytes) {o : Ordering} (e : o ≡ order_of a b) where
  pub below_less : o ≡ Less → true ≡ below_bytes a b
  unfolding order_of
  below_less h = less-is (below_bytes a b) (same_bytes a b) (sym e ∙ h)

  pub below_equal : o ≡ Equal → false ≡ below_bytes a b
  unfolding order_of
  below_equal h = not-less (below_bytes a b) (same_bytes a b) (λ l. let z : ◌≡◌ {A = Bool} true false = cc in clash refl z)

  pub below-greater : o ≡ Greater → false ≡ below_bytes a b
  unfolding order_of
  below-greater h = not-less (below_bytes a b) (same_bytes a b) (λ l. let z : ◌≡◌ {A = Bool} true false = cc in clash refl z)

-- whether the first is less, as the library tests it
pub less-below : (a b : Bytes) {o : Ordering} → o ≡ order_of a b → is_lt o ≡ below_bytes a b
unfolding order_of
less-below a b p =
    cases (below_bytes a b)
    (λ e. rw (p, e))
    (λ e. cases (same_bytes a b) (λ f. rw (p, e, f)) (λ f. rw (p, e, f)))

-- the library's order of two slices
pub slice-order : (a b : Bytes) → slice_cmp nat_cmp a b ≡ order_of a b
unfolding order_of
slice-order [] [] = refl
slice-order [] (y ∷ b) = refl
slice-order (x ∷ a) [] = refl
slice-order (x ∷ a) (y ∷ b) = cases (ltb x y) (λ e. rw e) (λ e. cases (eqb x y) (λ f. rw (e, f) (slice-order a b)) (λ f. rw (e, f)))
