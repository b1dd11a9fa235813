-- Lists in strict order: what they hold determines them.
use mathlib.Core.Path.{◌≡◌, refl, sym, ap₂, ◌∙◌, subst}
use mathlib.Core.Bool.{Bool}
use mathlib.Core.List.{List, [], ◌∷◌}
use mathlib.Core.Logic.{inl, inr}
use Rattle.objects.specs.Lists.{keep, In, Sorted}
use Rattle.objects.proofs.ListLaws.{cases, In-keep}

module _ {A : Type 0} (R : A → A → Type 0) where
  pub sorted-keep : (p : A → Bool) (l : List A) → Sorted R l → Sorted R (keep p l)
  sorted-keep p [] s = tt
  sorted-keep p (x ∷ l) s = cases (p x) (λ e. rw e (λ y i. s.0 y (In-keep p l y i).0, sorted-keep p l s.1)) (λ e. rw e (sorted-keep p l s.1))

  module _ (irrefl : (x : A) → R x x → ⊥) (trans : (x y z : A) → R x y → R y z → R x z) where
    heads : (x y : A) (l m : List A) → Sorted R (x ∷ l) → Sorted R (y ∷ m) → In x (y ∷ m) → In y (x ∷ l) → x ≡ y
    heads x y l m s r (inl e) j = e
    heads x y l m s r (inr i) (inl e) = sym e
    heads x y l m s r (inr i) (inr j) = absurd (irrefl x (trans x y x (s.0 y j) (r.0 x i)))

    -- what comes after x in the one list is not the head of the other
    tails : (x y z : A) (l m : List A) → x ≡ y → Sorted R (x ∷ l) → In z l → In z (y ∷ m) → In z m
    tails x y z l m e s i (inl f) = absurd (irrefl x (subst (R x) (f ∙ sym e) (s.0 z i)))
    tails x y z l m e s i (inr j) = j

    pub sorted-same : (l m : List A) → Sorted R l → Sorted R m → ((x : A) → In x l → In x m) → ((x : A) → In x m → In x l) → l ≡ m
    sorted-same [] [] s r h k = refl
    sorted-same [] (y ∷ m) s r h k = absurd (k y (inl refl))
    sorted-same (x ∷ l) [] s r h k = absurd (h x (inl refl))
    sorted-same (x ∷ l) (y ∷ m) s r h k =
        let e = heads x y l m s r (h x (inl refl)) (k y (inl refl)) in
        ap₂ (λ a b. a ∷ b) e (sorted-same l m s.1 r.1 (λ z i. tails x y z l m e s i (h z (inr i))) (λ z i. tails y x z m l (sym e) r i (k z (inr i))))
