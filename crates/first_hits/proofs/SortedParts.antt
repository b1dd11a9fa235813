-- Lists in strict order, parted at a place: what stands before and behind it, and one put there.
use mathlib.Core.Path.{◌≡◌, refl, sym, ap, ◌∙◌, subst}
use mathlib.Core.List.{List, [], ◌∷◌, ◌++◌, append_assoc}
use mathlib.Core.Logic.{◌⊎◌, inl, inr}
use Prim.Native.Nat.{ℕ, zero, suc, ◌+◌, ◌-◌, ◌<◌, ◌≤◌}
use native.Mathlib.Numerals.{add-one}
use native.Mathlib.Omega.{arith}
use lib.ListN.{length, get_or, take, drop, set, take-append-drop, length-append, length-drop}
use lib.Seq.{take-suc, take-take, length-take-le, set_at, take_at, append_snoc}
use Rattle.std.specs.List.{copy_within}
use Rattle.objects.specs.Lists.{In, Sorted}
use Rattle.objects.proofs.ListLaws.{either, In-append, In-append-l, In-append-r}
use Rattle.text.proofs.PartLaws.{drop-take}

module _ {A : Type 0} where
  -- ---- parts

  pub In-parts : (i : ℕ) (l : List A) (x : A) → In x l → In x (take i l) ⊎ In x (drop i l)
  In-parts i l x h = In-append (take i l) (drop i l) x (subst (In x) (sym (take-append-drop i l)) h)

  In-take : (i : ℕ) (l : List A) (x : A) → In x (take i l) → In x l
  In-take i l x h = subst (In x) (take-append-drop i l) (In-append-l (take i l) (drop i l) x h)

  In-drop : (i : ℕ) (l : List A) (x : A) → In x (drop i l) → In x l
  In-drop i l x h = subst (In x) (take-append-drop i l) (In-append-r (take i l) (drop i l) x h)

  -- one put at a place
  pub In-put : (i : ℕ) (l : List A) (q x : A) → In x (take i l ++ (q ∷ drop i l)) → (x ≡ q) ⊎ In x l
  In-put i l q x h =
      either (In-append (take i l) (q ∷ drop i l) x h)
      (λ j. inr (In-take i l x j))
      (λ j. either j (λ e. inl e) (λ k. inr (In-drop i l x k)))

  pub put-In : (i : ℕ) (l : List A) (q x : A) → In x l → In x (take i l ++ (q ∷ drop i l))
  put-In i l q x h =
      either (In-parts i l x h) (λ j. In-append-l (take i l) (q ∷ drop i l) x j) (λ j. In-append-r (take i l) (q ∷ drop i l) x (inr j))

  pub put-In-self : (i : ℕ) (l : List A) (q : A) → In q (take i l ++ (q ∷ drop i l))
  put-In-self i l q = In-append-r (take i l) (q ∷ drop i l) q (inl refl)

  -- ---- order

  module _ (R : A → A → Type 0) where
    -- those up to the one at i
    pub sorted_before : (l : List A) (i : ℕ) (d x : A) → Sorted R l → i < length l → In x (take (suc i) l) → (x ≡ get_or l i d) ⊎ R x (get_or l i d)
    sorted_before [] i d x s h j = absurd (omega arith)
    sorted_before (y ∷ l) zero d x s h j = either j (λ e. inl e) (λ z. absurd z)
    sorted_before (y ∷ l) (suc i) d x s h (inl e) = inr (rw e (s.0 (get_or l i d) (there l i d (omega arith))))
      where
        there : (l : List A) (i : ℕ) (d : A) → i < length l → In (get_or l i d) l
        there [] i d h = absurd (omega arith)
        there (y ∷ l) zero d h = inl refl
        there (y ∷ l) (suc i) d h = inr (there l i d (omega arith))
    sorted_before (y ∷ l) (suc i) d x s h (inr j) = sorted_before l i d x s.1 (omega arith) j

    -- those from the one at i on
    pub sorted-behind : (l : List A) (i : ℕ) (d x : A) → Sorted R l → i < length l → In x (drop i l) → (x ≡ get_or l i d) ⊎ R (get_or l i d) x
    sorted-behind [] i d x s h j = absurd (omega arith)
    sorted-behind (y ∷ l) zero d x s h (inl e) = inl e
    sorted-behind (y ∷ l) zero d x s h (inr j) = inr (s.0 x j)
    sorted-behind (y ∷ l) (suc i) d x s h j = sorted-behind l i d x s.1 (omega arith) j

    -- of two in the list, one comes before the other
    pub sorted-either : (l : List A) (x y : A) → Sorted R l → In x l → In y l → (x ≡ y) ⊎ (R x y ⊎ R y x)
    sorted-either [] x y s x5 _ = elim x5 [ ]
    sorted-either (z ∷ l) x y s (inl e) (inl f) = inl (e ∙ sym f)
    sorted-either (z ∷ l) x y s (inl e) (inr j) = inr (inl (rw e (s.0 y j)))
    sorted-either (z ∷ l) x y s (inr i) (inl f) = inr (inr (rw f (s.0 x i)))
    sorted-either (z ∷ l) x y s (inr i) (inr j) = sorted-either l x y s.1 i j

    pub sorted-put : (i : ℕ) (l : List A) (q : A) → Sorted R l → ((x : A) → In x (take i l) → R x q) → ((x : A) → In x (drop i l) → R q x) → Sorted R (take i l ++ (q ∷ drop i l))
    sorted-put zero l q s a b = (b, s)
    sorted-put (suc i) [] q s a b = (λ y j. absurd j, tt)
    sorted-put (suc i) (y ∷ l) q s a b = (
      λ x j. either (In-put i l q x j) (λ e. rw e (a y (inl refl))) (λ k. s.0 x k),
      sorted-put i l q s.1 (λ x j. a x (inr j)) b,
    )

-- ---- words that go one place further

module _ (w : List ℕ) (n : ℕ) (h : n < length w) where
  -- the words from j up to n went further
  abbrev pub gone : ℕ → List ℕ
  gone j = take (j + 1) w ++ (take (n - j) (drop j w) ++ drop (n + 1) w)

  -- as `copy_within` leaves them
  pub within-gone : (i : ℕ) → i ≤ n → {v : List ℕ} → v ≡ copy_within w i n (i + 1) → v ≡ gone i
  within-gone i l e = let z : i + 1 + (n - i) ≡ n + 1 = omega arith in e ∙ rw z (append_assoc (take (i + 1) w) (take (n - i) (drop i w)) (drop (n + 1) w))

  -- the word at j, once those behind it went further, may be another
  over : (j : ℕ) (rest : List ℕ) (x : ℕ) → j < length w → set (take (j + 1) w ++ rest) j x ≡ take j w ++ (x ∷ rest)
  over j rest x l =
      rw (add-one j, take-suc w j 0 l, append_snoc (take j w) (get_or w j 0) rest)
      (set_at (take j w) (get_or w j 0) rest x j (length-take-le j w (omega arith)))

  put-gone : (i k : ℕ) → i ≤ n → take (n + 1) (set (gone i) i k) ≡ take i (take n w) ++ (k ∷ drop i (take n w))
  put-gone i k l =
      let tail = take (n - i) (drop i w) in
      let a : length (take i w) ≡ i = length-take-le i w (omega arith) in
      let b : n - i ≤ length (drop i w) = rw (length-drop i w) (omega arith) in
      let c : length tail ≡ n - i = length-take-le (n - i) (drop i w) b in
      let d : length (take i w ++ (k ∷ tail)) ≡ n + 1 = length-append (take i w) (k ∷ tail) ∙ omega arith in
      ap (take (n + 1)) (over i (tail ++ drop (n + 1) w) k (omega arith) ∙ sym (append_assoc (take i w) (k ∷ tail) (drop (n + 1) w)))
      ∙ take_at (take i w ++ (k ∷ tail)) (drop (n + 1) w) (n + 1) d
      ∙ rw (take-take i n w l, drop-take i n w)

  -- one word stands where they made room
  pub gone-put : (i k : ℕ) → i ≤ n → {v : List ℕ} → v ≡ gone i → take (n + 1) (set v i k) ≡ take i (take n w) ++ (k ∷ drop i (take n w))
  gone-put i k l e = rw e (put-gone i k l)
