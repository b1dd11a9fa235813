-- Laws of lists that the others need: of the first of a list (`first_of`), of lists in order beside those of objects/proofs/SortedLaws.antt, and of one in the middle.
use mathlib.Core.Path.{◌≡◌, refl, sym, ◌∙◌, subst}
use mathlib.Core.Bool.{Bool, true, false}
use mathlib.Core.List.{List, [], ◌∷◌, ◌++◌, map}
use mathlib.Core.Logic.{◌⊎◌, inl, inr}
use Prim.Native.Nat.{ℕ, zero, suc, ◌≤◌, ◌<◌}
use native.Mathlib.Omega.{arith}
use lib.ListN.{length, get_or}
use lib.Seq.{ext_get_or}
use Rattle.objects.specs.Lists.{keep, flat, In, Sorted, up_to}
use Rattle.objects.proofs.ListLaws.{cases, either, In-append, In-append-l, In-append-r, In-map, map-In-to, In-flat}
use Rattle.objects.proofs.Numbers.{up_to-below, each-length, each_at}
use Rattle.interfaces.specs.FullList.{first_of}

module _ {A : Type 0} where
  -- of one there is one
  pub one-In : (x y : A) → In y (x ∷ []) → y ≡ x
  one-In x y (inl e) = e
  one-In x y (inr i) = absurd i

  pub no-members : (l : List A) → ((x : A) → In x l → ⊥) → l ≡ []
  no-members [] h = refl
  no-members (x ∷ l) h = absurd (h x (inl refl))

  pub by_place : (l : List A) (d : A) → map (λ n. get_or l n d) (up_to (length l)) ≡ l
  by_place l d =
      let at : ℕ → A = λ n. get_or l n d in
      ext_get_or d (map at (up_to (length l))) l (each-length at (length l)) (λ i h. each_at at (length l) i d (rw (each-length at (length l)) at h))

  -- ---- the first

  pub first-In : (l : List A) (x : A) → In x (first_of l) → In x l
  first-In [] x x3 = elim x3 [ ]
  first-In (y ∷ l) x (inl e) = inl e
  first-In (y ∷ l) x (inr i) = absurd i

  pub first_one : (l : List A) (x : A) → In x l → (y : A) × (first_of l ≡ y ∷ [])
  first_one [] x i = elim i [ ]
  first_one (y ∷ l) x i = (y, refl)

  pub first_some : (l : List A) (x : A) → In x l → (y : A) × In y (first_of l)
  first_some [] x i = elim i [ ]
  first_some (y ∷ l) x i = (y, inl refl)

  pub first-least : (R : A → A → Type 0) (l : List A) (x : A) → Sorted R l → In x (first_of l) → (y : A) → In y l → (y ≡ x) ⊎ R x y
  first-least R [] x s x5 y j = elim x5 [ ]
  first-least R (z ∷ l) x s (inl e) y (inl f) = inl (f ∙ sym e)
  first-least R (z ∷ l) x s (inl e) y (inr j) = inr (subst (λ w. R w y) (sym e) (s.0 y j))
  first-least R (z ∷ l) x s (inr i) y j = absurd i

  pub first-append : (l m : List A) (x : A) → In x (first_of (l ++ m)) → In x (first_of l) ⊎ ((l ≡ []) × In x (first_of m))
  first-append [] m x i = inr (refl, i)
  first-append (y ∷ l) m x i = inl i

  pub first-left : (l m : List A) (x : A) → In x (first_of l) → In x (first_of (l ++ m))
  first-left [] m x i = elim i [ ]
  first-left (y ∷ l) m x i = i

  pub first-right : (l m : List A) (x : A) → l ≡ [] → In x (first_of m) → In x (first_of (l ++ m))
  first-right l m x e i = subst (λ k. In x (first_of (k ++ m))) (sym e) i

  pub first-sorted : (R : A → A → Type 0) (l : List A) → Sorted R (first_of l)
  first-sorted R [] = tt
  first-sorted R (x ∷ l) = (λ y i. absurd i, tt)

-- ---- one in the middle

module _ {A : Type 0} (before : List A) (x : A) (after : List A) where
  pub mid-cases : (y : A) → In y (before ++ (x ∷ after)) → (y ≡ x) ⊎ (In y before ⊎ In y after)
  mid-cases y h = either (In-append before (x ∷ after) y h) (λ i. inr (inl i)) (λ i. either i (λ e. inl e) (λ j. inr (inr j)))

  pub mid-in : (y : A) → In y before ⊎ In y after → In y (before ++ (x ∷ after))
  mid-in y h = either h (λ i. In-append-l before (x ∷ after) y i) (λ i. In-append-r before (x ∷ after) y (inr i))

  pub mid-here : In x (before ++ (x ∷ after))
  mid-here = In-append-r before (x ∷ after) x (inl refl)

-- ---- lists in order

module _ {A : Type 0} (R : A → A → Type 0) where
  -- two of them are the same, or one comes before the other
  pub sorted-two : (l : List A) (x y : A) → Sorted R l → In x l → In y l → (x ≡ y) ⊎ (R x y ⊎ R y x)
  sorted-two [] x y s x5 _ = elim x5 [ ]
  sorted-two (z ∷ l) x y s (inl e) (inl f) = inl (e ∙ sym f)
  sorted-two (z ∷ l) x y s (inl e) (inr j) = inr (inl (subst (λ w. R w y) (sym e) (s.0 y j)))
  sorted-two (z ∷ l) x y s (inr i) (inl f) = inr (inr (subst (λ w. R w x) (sym f) (s.0 x i)))
  sorted-two (z ∷ l) x y s (inr i) (inr j) = sorted-two l x y s.1 i j

  sorted-append : (l m : List A) → Sorted R l → Sorted R m → ((x y : A) → In x l → In y m → R x y) → Sorted R (l ++ m)
  sorted-append [] m s t h = t
  sorted-append (x ∷ l) m s t h =
      (λ y i. either (In-append l m y i) (λ j. s.0 y j) (λ j. h x y (inl refl) j), sorted-append l m s.1 t (λ a b i j. h a b (inr i) j))

  -- one more at the end
  pub sorted-snoc : (l : List A) (x : A) → Sorted R l → ((y : A) → In y l → R y x) → Sorted R (l ++ (x ∷ []))
  sorted-snoc l x s h = sorted-append l (x ∷ []) s (λ y i. absurd i, tt) (λ y z i j. subst (λ w. R y w) (sym (one-In x z j)) (h y i))

  -- one more in the middle
  pub sorted_more : (b : List A) (r : A) (a : List A) → Sorted R (b ++ a) → ((s : A) → In s b → R s r) → ((s : A) → In s a → R r s) → Sorted R (b ++ (r ∷ a))
  sorted_more [] r a s up on = (on, s)
  sorted_more (x ∷ b) r a s up on = (
    λ y i. either (mid-cases b r a y i)
        (λ e. subst (λ z. R x z) (sym e) (up x (inl refl)))
        (λ o. s.0 y (either o (λ j. In-append-l b a y j) (λ j. In-append-r b a y j))),
    sorted_more b r a s.1 (λ z i. up z (inr i)) on,
  )

  -- another in its place
  pub sorted-other : (b : List A) (r q : A) (a : List A) → Sorted R (b ++ (r ∷ a)) → ((s : A) → In s b → R s r → R s q) → ((s : A) → In s a → R r s → R q s) → Sorted R (b ++ (q ∷ a))
  sorted-other [] r q a s up on = (λ y i. on y i (s.0 y i), s.1)
  sorted-other (x ∷ b) r q a s up on = (
    λ y i. either (mid-cases b q a y i)
        (λ e. subst (λ z. R x z) (sym e) (up x (inl refl) (s.0 r (mid-here b r a))))
        (λ o. s.0 y (mid-in b r a y o)),
    sorted-other b r q a s.1 (λ z i. up z (inr i)) on,
  )

module _ {A B : Type 0} (R : B → B → Type 0) where
  pub sorted-map : (f : A → B) (l : List A) → Sorted (λ x y. R (f x) (f y)) l → Sorted R (map f l)
  sorted-map f [] s = tt
  sorted-map f (x ∷ l) s = (λ y i. let r = In-map f l y i in subst (λ z. R (f x) z) (sym r.2) (s.0 r.0 r.1), sorted-map f l s.1)

  pub sorted-unmap : (f : A → B) (l : List A) → Sorted R (map f l) → Sorted (λ x y. R (f x) (f y)) l
  sorted-unmap f [] s = tt
  sorted-unmap f (x ∷ l) s = (λ y i. s.0 (f y) (map-In-to f l y i), sorted-unmap f l s.1)

  pub sorted-flat : (f : A → List B) (l : List A) → Sorted (λ a b. (x y : B) → In x (f a) → In y (f b) → R x y) l → ((a : A) → In a l → Sorted R (f a)) → Sorted R (flat f l)
  sorted-flat f [] s h = tt
  sorted-flat f (a ∷ l) s h =
      sorted-append R (f a) (flat f l) (h a (inl refl)) (sorted-flat f l s.1 (λ b i. h b (inr i)))
      (λ x y i j. let r = In-flat f l y j in s.0 r.0 r.1 x y i r.2)

-- a weaker order
pub sorted-weaker : {A : Type 0} (R S : A → A → Type 0) → ((x y : A) → R x y → S x y) → (l : List A) → Sorted R l → Sorted S l
sorted-weaker R S h [] s = tt
sorted-weaker R S h (x ∷ l) s = (λ y i. h x y (s.0 y i), sorted-weaker R S h l s.1)

abbrev pub Less : ℕ → ℕ → Type 0
Less a b = a < b

pub up_to-sorted : (n : ℕ) → Sorted Less (up_to n)
up_to-sorted zero = tt
up_to-sorted (suc n) = sorted-snoc Less (up_to n) n (up_to-sorted n) (λ x i. up_to-below n x i)

-- ---- of two tests the one that lets in more keeps more of a list

module _ {A : Type 0} (p q : A → Bool) (more : (x : A) → p x ≡ true → q x ≡ true) where
  keep-fewer : (l : List A) → length (keep p l) ≤ length (keep q l)
  keep-fewer [] = omega arith
  keep-fewer (x ∷ l) =
      let h = keep-fewer l in
      cases (p x) (λ e. rw (e, more x e) (omega (arith, h))) (λ e. cases (q x) (λ f. rw (e, f) (omega (arith, h))) (λ f. rw (e, f) h))

  pub keep-less : (l : List A) (z : A) → In z l → p z ≡ false → q z ≡ true → length (keep p l) < length (keep q l)
  keep-less [] z x3 f g = elim x3 [ ]
  keep-less (x ∷ l) z (inl e) f g = let h = keep-fewer l in rw (subst (λ y. p y ≡ false) e f, subst (λ y. q y ≡ true) e g) (omega (arith, h))
  keep-less (x ∷ l) z (inr i) f g =
      let h = keep-less l z i f g in
      cases (p x) (λ e. rw (e, more x e) (omega (arith, h))) (λ e. cases (q x) (λ k. rw (e, k) (omega (arith, h))) (λ k. rw (e, k) h))
