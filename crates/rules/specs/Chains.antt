-- Chains of any finite length: whether one leads from here to there. Used by identity (I) and by refusal 10.
use Rattle.std.specs.Prelude.{◌≡◌, Bool, true, false, not, List, [], ◌∷◌, ◌++◌, ℕ, zero, suc}
use Rattle.objects.specs.Lists.{any, keep, In}

module _ {A : Type 0} (same : A → A → Bool) where
  -- the list with the first of each only
  abbrev pub once : List A → List A
  once [] = []
  once (x ∷ xs) = x ∷ keep (λ y. not (same x y)) (once xs)

  -- those of the list that are not among the others
  abbrev pub without : List A → List A → List A
  without others xs = keep (λ y. not (any (same y) others)) xs

  -- Some chain of steps leads from one of `todo` to one that passes the test. `met` were looked at before and failed it. Each turn looks at
  -- one that was not met, so as many turns are enough as there are things.
  unfoldable pub leads : (next : A → List A) (p : A → Bool) → ℕ → (met todo : List A) → Bool
  leads next p zero met todo = false
  leads next p (suc k) met [] = false
  leads next p (suc k) met (x ∷ todo) = elim (p x) [
    | true ↦ true
    | false ↦ leads next p k (x ∷ met) (without (x ∷ met) (next x ++ todo))
  ]

-- A finite chain of steps that ends where the test passes: what `leads` looks for.
pub data Chain {A : Type 0} (next : A → List A) (p : A → Bool) : A → Type 0 where
  here : {x : A} → p x ≡ true → Chain next p x
  there : {x y : A} → In y (next x) → Chain next p y → Chain next p x
