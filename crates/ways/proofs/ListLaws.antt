-- Laws of `flat` and `keep` together.
use mathlib.Core.Path.{◌≡◌, refl, ap}
use mathlib.Core.Bool.{Bool, false}
use mathlib.Core.List.{List, [], ◌∷◌, ◌++◌}
use mathlib.Core.Logic.{inl, inr}
use Rattle.objects.specs.Lists.{keep, flat, In}
use Rattle.objects.proofs.ListLaws.{cases, keep_append}

module _ {A B : Type 0} where
  -- what gives nothing may be left out
  pub flat_keep : (f : A → List B) (p : A → Bool) (l : List A) → ((x : A) → In x l → p x ≡ false → f x ≡ []) → flat f (keep p l) ≡ flat f l
  flat_keep f p [] h = refl
  flat_keep f p (x ∷ l) h =
      cases (p x)
      (λ e. rw e (ap (λ r. f x ++ r) (flat_keep f p l (λ y i. h y (inr i)))))
      (λ e. rw (e, h x (inl refl) e) (flat_keep f p l (λ y i. h y (inr i))))

  pub keep-each : (p : B → Bool) (f : A → List B) (l : List A) → flat (λ x. keep p (f x)) l ≡ keep p (flat f l)
  keep-each p f [] = refl
  keep-each p f (x ∷ l) = rw (keep-each p f l, keep_append p (f x) (flat f l))
