-- Places in lists (`At`), in one list and in two side by side.
use mathlib.Core.Path.{◌≡◌, refl, sym, ◌∙◌, subst}
use mathlib.Core.List.{List, [], ◌∷◌, map}
use mathlib.Core.Logic.{inl, inr}
use Prim.Native.Nat.{ℕ, zero, suc}
use Rattle.objects.specs.Lists.{In}
use Rattle.objects.specs.declared.TypeKey.{TypeKey}
use Rattle.objects.specs.Table.{Member}
use Rattle.objects.proofs.PairLaws.{AllPairs}
use Rattle.rules.specs.Identity.{Pair, corresponding}
use Rattle.gospec.specs.Go.{At, at_first, at-later}

module _ {A : Type 0} where
  pub At-In : {l : List A} {i : ℕ} {x : A} → At l i x → In x l
  At-In at_first = inl refl
  At-In (at-later a) = inr (At-In a)

  pub In-At : (l : List A) (x : A) → In x l → (i : ℕ) × At l i x
  In-At [] x x3 = elim x3 [ ]
  In-At (y ∷ l) x (inl e) = (zero, subst (λ z. At (y ∷ l) zero z) (sym e) at_first)
  In-At (y ∷ l) x (inr i) = let r = In-At l x i in (suc r.0, at-later r.1)

  pub at_head : (l : List A) (x y : A) → At (x ∷ l) zero y → y ≡ x
  at_head l x y at_first = refl

  pub at_tail : (l : List A) (x y : A) (i : ℕ) → At (x ∷ l) (suc i) y → At l i y
  at_tail l x y i (at-later a) = a

  -- one at a place
  pub At-one : (l : List A) (i : ℕ) (x y : A) → At l i x → At l i y → x ≡ y
  At-one [] i x y a b = elim a [ ]
  At-one (z ∷ l) zero x y a b = at_head l z x a ∙ sym (at_head l z y b)
  At-one (z ∷ l) (suc i) x y a b = At-one l i x y (at_tail l z x i a) (at_tail l z y i b)

  -- what holds of two at one place
  pub pairs-at : (P : A → A → Type 0) (l m : List A) (i : ℕ) (x y : A) → AllPairs P l m → At l i x → At m i y → P x y
  pairs-at P [] m i x y a r s = elim r [ ]
  pairs-at P (z ∷ l) [] i x y a r s = absurd a
  pairs-at P (z ∷ l) (w ∷ m) zero x y a r s = rw (at_head l z x r, at_head m w y s) a.0
  pairs-at P (z ∷ l) (w ∷ m) (suc i) x y a r s = pairs-at P l m i x y a.1 (at_tail l z x i r) (at_tail m w y i s)

  -- the one at the same place
  pub pairs-beside : (P : A → A → Type 0) (l m : List A) (i : ℕ) (x : A) → AllPairs P l m → At l i x → (y : A) × At m i y × P x y
  pairs-beside P [] m i x a r = elim r [ ]
  pairs-beside P (z ∷ l) [] i x a r = absurd a
  pairs-beside P (z ∷ l) (w ∷ m) zero x a r = (w, at_first, rw (at_head l z x r) a.0)
  pairs-beside P (z ∷ l) (w ∷ m) (suc i) x a r = let s = pairs-beside P l m i x a.1 (at_tail l z x i r) in (s.0, at-later s.1, s.2)

module _ {A B : Type 0} where
  pub At-map : (f : A → B) {l : List A} {i : ℕ} {x : A} → At l i x → At (map f l) i (f x)
  At-map f at_first = at_first
  At-map f (at-later a) = at-later (At-map f a)

  pub map-At : (f : A → B) (l : List A) (i : ℕ) (y : B) → At (map f l) i y → (x : A) × At l i x × (y ≡ f x)
  map-At f [] i y a = elim a [ ]
  map-At f (x ∷ l) zero y a = (x, at_first, at_head (map f l) (f x) y a)
  map-At f (x ∷ l) (suc i) y a = let r = map-At f l i y (at_tail (map f l) (f x) y i a) in (r.0, at-later r.1, r.2)

-- corresponding parts stand at one place
pub corr-at : (xs ys : List TypeKey) (p : Pair) → In p (corresponding xs ys) → (i : ℕ) × At xs i p.left × At ys i p.right
corr-at [] ys p x' = elim x' [ ]
corr-at (x ∷ xs) [] p x4 = elim x4 [ ]
corr-at (x ∷ xs) (y ∷ ys) p (inl e) = (zero, rw e at_first, rw e at_first)
corr-at (x ∷ xs) (y ∷ ys) p (inr i) = let r = corr-at xs ys p i in (suc r.0, at-later r.1, at-later r.2)

-- corresponding types of members are the types of two members at one place
pub members-at : (ms ns : List Member) (p : Pair) → In p (corresponding (map (λ m. m.type) ms) (map (λ m. m.type) ns))
    → (i : ℕ) × (m : Member) × (n : Member) × At ms i m × At ns i n × (p.left ≡ m.type) × (p.right ≡ n.type)
members-at ms ns p i =
    let r = corr-at (map (λ (m : Member). m.type) ms) (map (λ (m : Member). m.type) ns) p i in
    let m = map-At (λ (m : Member). m.type) ms r.0 p.left r.1 in
    let n = map-At (λ (m : Member). m.type) ns r.0 p.right r.2 in
    (r.0, m.0, n.0, m.1, n.1, m.2, n.2)
