-- Two lists side by side: what holds of each two that stand at the same place, with nothing left over.
use mathlib.Core.Path.{◌≡◌, refl, sym, ap, subst}
use mathlib.Core.List.{List, [], ◌∷◌}
use mathlib.Core.Logic.{inl, inr}
use Prim.Native.Nat.{ℕ, zero, suc, ◌<◌}
use native.Mathlib.Omega.{arith}
use lib.ListN.{length, get_or}
use Rattle.objects.specs.Lists.{In}

abbrev pub AllPairs : {A : Type 0} → (A → A → Type 0) → List A → List A → Type 0
AllPairs P [] [] = Unit {0}
AllPairs P [] (y ∷ ys) = ⊥
AllPairs P (x ∷ xs) [] = ⊥
AllPairs P (x ∷ xs) (y ∷ ys) = P x y × AllPairs P xs ys

module _ {A : Type 0} where
  -- what holds of each pair, told where the two come from
  pub pairs-map : (P Q : A → A → Type 0) (l m : List A) → ((x y : A) → In x l → In y m → P x y → Q x y) → AllPairs P l m → AllPairs Q l m
  pairs-map P Q [] [] h a = tt
  pairs-map P Q [] (y ∷ ys) h a = a
  pairs-map P Q (x ∷ xs) [] h a = a
  pairs-map P Q (x ∷ xs) (y ∷ ys) h a = (h x y (inl refl) (inl refl) a.0, pairs-map P Q xs ys (λ z w i j. h z w (inr i) (inr j)) a.1)

  pub pairs-self : (P : A → A → Type 0) (l : List A) → ((x : A) → In x l → P x x) → AllPairs P l l
  pairs-self P [] h = tt
  pairs-self P (x ∷ xs) h = (h x (inl refl), pairs-self P xs (λ z i. h z (inr i)))

  pub pairs-turn : (P Q : A → A → Type 0) (l m : List A) → ((x y : A) → P x y → Q y x) → AllPairs P l m → AllPairs Q m l
  pairs-turn P Q [] [] h a = tt
  pairs-turn P Q [] (y ∷ ys) h a = a
  pairs-turn P Q (x ∷ xs) [] h a = a
  pairs-turn P Q (x ∷ xs) (y ∷ ys) h a = (h x y a.0, pairs-turn P Q xs ys h a.1)

  pub pairs-trans : (P Q R : A → A → Type 0) (l m n : List A) → ((x y z : A) → P x y → Q y z → R x z) → AllPairs P l m → AllPairs Q m n → AllPairs R l n
  pairs-trans P Q R [] [] [] h a b = tt
  pairs-trans P Q R [] [] (z ∷ zs) h a b = b
  pairs-trans P Q R [] (y ∷ ys) n h a b = absurd a
  pairs-trans P Q R (x ∷ xs) [] n h a b = absurd a
  pairs-trans P Q R (x ∷ xs) (y ∷ ys) [] h a b = b
  pairs-trans P Q R (x ∷ xs) (y ∷ ys) (z ∷ zs) h a b = (h x y z a.0 b.0, pairs-trans P Q R xs ys zs h a.1 b.1)

  pub pairs-long : (P : A → A → Type 0) (l m : List A) → AllPairs P l m → length l ≡ length m
  pairs-long P [] [] a = refl
  pairs-long P [] (y ∷ ys) a = absurd a
  pairs-long P (x ∷ xs) [] a = absurd a
  pairs-long P (x ∷ xs) (y ∷ ys) a = ap (λ n. suc n) (pairs-long P xs ys a.1)

  -- the one beside x; the one beside y
  pub pairs-right : (P : A → A → Type 0) (l m : List A) → AllPairs P l m → (x : A) → In x l → (y : A) × In y m × P x y
  pairs-right P [] m a x i = elim i [ ]
  pairs-right P (z ∷ l) [] a x i = absurd a
  pairs-right P (z ∷ l) (y ∷ m) a x (inl e) = (y, inl refl, subst (λ w. P w y) (sym e) a.0)
  pairs-right P (z ∷ l) (y ∷ m) a x (inr i) = let r = pairs-right P l m a.1 x i in (r.0, inr r.1, r.2)

  pub pairs-left : (P : A → A → Type 0) (l m : List A) → AllPairs P l m → (y : A) → In y m → (x : A) × In x l × P x y
  pairs-left P [] [] a y i = elim i [ ]
  pairs-left P (x ∷ l) [] a y i = elim a [ ]
  pairs-left P [] (z ∷ m) a y i = absurd a
  pairs-left P (x ∷ l) (z ∷ m) a y (inl e) = (x, inl refl, subst (λ w. P x w) (sym e) a.0)
  pairs-left P (x ∷ l) (z ∷ m) a y (inr i) = let r = pairs-left P l m a.1 y i in (r.0, inr r.1, r.2)

  -- place by place
  pub pairs-at : (P : A → A → Type 0) (l m : List A) (i : ℕ) (d : A) → AllPairs P l m → i < length l → P (get_or l i d) (get_or m i d)
  pairs-at P [] m i d a h = absurd (omega arith)
  pairs-at P (x ∷ xs) [] i d a h = absurd a
  pairs-at P (x ∷ xs) (y ∷ ys) zero d a h = a.0
  pairs-at P (x ∷ xs) (y ∷ ys) (suc i) d a h = pairs-at P xs ys i d a.1 (omega arith)

  pub pairs-from : (P : A → A → Type 0) (l m : List A) (d : A) → length l ≡ length m → ((i : ℕ) → i < length l → P (get_or l i d) (get_or m i d)) → AllPairs P l m
  pairs-from P [] [] d e h = tt
  pairs-from P [] (y ∷ ys) d e h = absurd (omega arith)
  pairs-from P (x ∷ xs) [] d e h = absurd (omega arith)
  pairs-from P (x ∷ xs) (y ∷ ys) d e h = (h 0 (omega arith), pairs-from P xs ys d (omega arith) (λ i l. h (suc i) (omega arith)))
