-- `walks` lists every walk, nothing else, and in the strict order of places.
use mathlib.Core.Path.{◌≡◌, refl, sym, ◌∙◌, subst}
use mathlib.Core.List.{List, [], ◌∷◌, ◌++◌, map}
use mathlib.Core.Logic.{◌⊎◌, inl, inr}
use Prim.Native.Nat.{ℕ, zero, suc, ◌+◌, ◌<◌}
use native.Mathlib.Omega.{arith}
use lib.ListN.{length, length-append}
use Rattle.objects.specs.Lists.{flat, In, Sorted}
use Rattle.objects.proofs.ListLaws.{either, In-append, In-map, In-flat, map-In-to, flat-In-to}
use Rattle.objects.specs.declared.TypeKey.{TypeKey}
use Rattle.rules.specs.Ways.{Walk}
use Rattle.ways.specs.Graph.{Graph, Step, along, onward, walks}

-- a walk of d steps, one step after another
pub data IsWalk (G : Graph) (r0 : Walk) : ℕ → Walk → Type 0 where
  here : IsWalk G r0 zero r0
  further : {d : ℕ} {w : Walk} (s : Step) → IsWalk G r0 d w → In s (G.steps w.at) → IsWalk G r0 (suc d) (along G w s)

pub listed : (G : Graph) (r0 : Walk) {d : ℕ} {w : Walk} → IsWalk G r0 d w → In w (walks G r0 d)
listed G r0 here = inl refl
listed G r0 (further {d = e} {w = v} s p i) = flat-In-to (onward G) (walks G r0 e) v (along G v s) (listed G r0 p) (map-In-to (along G v) (G.steps v.at) s i)

pub only : (G : Graph) (r0 : Walk) (d : ℕ) (w : Walk) → In w (walks G r0 d) → IsWalk G r0 d w
only G r0 zero w (inr x'') = elim x'' [ ]
only G r0 zero w (inl e) = subst (IsWalk G r0 zero) (sym e) here
only G r0 (suc d) w i =
    let v = In-flat (onward G) (walks G r0 d) w i in
    let s = In-map (along G v.0) (G.steps v.0.at) w v.2 in
    subst (IsWalk G r0 (suc d)) (sym s.2) (further s.0 (only G r0 d v.0 v.1) s.1)

-- ---- the order of places

abbrev pub Before : List ℕ → List ℕ → Type 0
Before [] [] = ⊥
Before [] (y ∷ ys) = Unit {0}
Before (x ∷ xs) [] = ⊥
Before (x ∷ xs) (y ∷ ys) = (x < y) ⊎ ((x ≡ y) × Before xs ys)

pub before-irrefl : (p : List ℕ) → Before p p → ⊥
before-irrefl [] b = b
before-irrefl (x ∷ p) (inl h) = omega arith
before-irrefl (x ∷ p) (inr h) = before-irrefl p h.1

pub before-snoc : (p q : List ℕ) (i j : ℕ) → length p ≡ length q → Before p q → Before (p ++ (i ∷ [])) (q ++ (j ∷ []))
before-snoc [] [] i j e b = absurd b
before-snoc [] (y ∷ q) i j e b = absurd (omega arith)
before-snoc (x ∷ p) [] i j e b = absurd b
before-snoc (x ∷ p) (y ∷ q) i j e (inl h) = inl h
before-snoc (x ∷ p) (y ∷ q) i j e (inr h) = inr (h.0, before-snoc p q i j (omega arith) h.1)

before_same : (p : List ℕ) (i j : ℕ) → i < j → Before (p ++ (i ∷ [])) (p ++ (j ∷ []))
before_same [] i j h = inl h
before_same (x ∷ p) i j h = inr (refl, before_same p i j h)

module _ {A : Type 0} (R : A → A → Type 0) where
  sorted-append : (l m : List A) → Sorted R l → Sorted R m → ((x y : A) → In x l → In y m → R x y) → Sorted R (l ++ m)
  sorted-append [] m sl sm h = sm
  sorted-append (x ∷ l) m sl sm h = (
    λ y i. either (In-append l m y i) (λ j. sl.0 y j) (λ j. h x y (inl refl) j),
    sorted-append l m sl.1 sm (λ a b i j. h a b (inr i) j),
  )

  sorted-map : {B : Type 0} (f : B → A) (S : B → B → Type 0) → ((a b : B) → S a b → R (f a) (f b)) → (l : List B) → Sorted S l → Sorted R (map f l)
  sorted-map f S h [] s = tt
  sorted-map f S h (x ∷ l) s = (
    λ y i. let z = In-map f l y i in subst (R (f x)) (sym z.2) (h x z.0 (s.0 z.0 z.1)),
    sorted-map f S h l s.1,
  )

abbrev pub Sooner : Walk → Walk → Type 0
Sooner v w = Before v.places w.places

-- a type's embedded fields come in order of place
abbrev pub Placed : Graph → Type 0
Placed G = (t : TypeKey) → Sorted (λ (a b : Step). a.place < b.place) (G.steps t)

module _ (G : Graph) where
  pub long : (r0 : Walk) (d : ℕ) (w : Walk) → In w (walks G r0 d) → length w.places ≡ length r0.places + d
  long r0 zero w (inr x'') = elim x'' [ ]
  long r0 zero w (inl e) = rw e (omega arith)
  long r0 (suc d) w i =
      let v = In-flat (onward G) (walks G r0 d) w i in
      let s = In-map (along G v.0) (G.steps v.0.at) w v.2 in
      let ih = long r0 d v.0 v.1 in
      rw (s.2, length-append v.0.places (s.0.place ∷ [])) (omega arith)

module _ (G : Graph) (pl : Placed G) where
  sorted-onward : (n : ℕ) (W : List Walk) → ((w : Walk) → In w W → length w.places ≡ n) → Sorted Sooner W → Sorted Sooner (flat (onward G) W)
  sorted-onward n [] h s = tt
  sorted-onward n (w ∷ ws) h s =
      sorted-append Sooner (onward G w) (flat (onward G) ws)
      (sorted-map Sooner (along G w) (λ a b. a.place < b.place) (λ a b l. before_same w.places a.place b.place l) (G.steps w.at) (pl w.at))
      (sorted-onward n ws (λ v i. h v (inr i)) s.1)
      (λ x y i j.
      let a = In-map (along G w) (G.steps w.at) x i in
      let v = In-flat (onward G) ws y j in
      let b = In-map (along G v.0) (G.steps v.0.at) y v.2 in
      rw (a.2, b.2) (before-snoc w.places v.0.places a.0.place b.0.place (h w (inl refl) ∙ sym (h v.0 (inr v.1))) (s.0 v.0 v.1)))

  pub sorted : (r0 : Walk) (d : ℕ) → Sorted Sooner (walks G r0 d)
  sorted r0 zero = (λ y i. absurd i, tt)
  sorted r0 (suc d) = sorted-onward (length r0.places + d) (walks G r0 d) (long G r0 d) (sorted r0 d)
