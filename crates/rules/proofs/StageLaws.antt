-- A stage of loading by what it finds (specs/Stages.antt), for items of any kind.
use mathlib.Core.Path.{◌≡◌, refl}
use mathlib.Core.Bool.{Bool, true, false}
use mathlib.Core.List.{List, [], ◌∷◌, ◌++◌}
use mathlib.Core.Logic.{inl, inr}
use mathlib.Core.Option.{none, some, some-ne-none}
use Prim.Native.Nat.{ℕ}
use Rattle.objects.specs.Lists.{In}
use Rattle.objects.proofs.ListLaws.{cases, either}
use Rattle.rules.specs.Load.{Loaded, refused, staged}
use Rattle.rules.specs.Stages.{first_line, or_else}

module _ {A : Type 0} (line : A → ℕ) (bad : A → Bool) where
  pub first-here : (i : A) (is : List A) → bad i ≡ true → first_line line bad (i ∷ is) ≡ some (line i)
  unfolding first_line
  first-here i is e = rw (e, first_line)

  pub first-later : (i : A) (is : List A) → bad i ≡ false → first_line line bad (i ∷ is) ≡ first_line line bad is
  unfolding first_line
  first-later i is e = rw (e, first_line)

  -- items in two parts
  pub first-append : (is js : List A) → first_line line bad (is ++ js) ≡ or_else (first_line line bad is) (first_line line bad js)
  unfolding first_line or_else
  first-append [] js = refl
  first-append (i ∷ is) js = cases (bad i) (λ e. rw (e, first_line)) (λ e. rw (e, first_line) (first-append is js))

  -- nothing is found where nothing fails
  pub none-fails : (is : List A) → first_line line bad is ≡ none → (i : A) → In i is → bad i ≡ false
  unfolding first_line
  none-fails [] h i k = elim k [ ]
  none-fails (j ∷ is) h i k =
      cases (bad j)
      (λ e. absurd (some-ne-none (line j) (rw (e, first_line) at h)))
      (λ e. either k (λ q. rw q e) (λ m. none-fails is (rw (e, first_line) at h) i m))

  -- what holds of the refusal at each line, and of the rest if none fails, holds of the stage
  pub stage_is : (P : Loaded → Type 0) (n : ℕ) (is : List A) (rest : Loaded)
      → ((i : A) → In i is → P (refused n (line i))) → (((i : A) → In i is → bad i ≡ false) → P rest) → P (staged n (first_line line bad is) rest)
  unfolding staged first_line
  stage_is P n [] rest fails passes = passes (λ i j. absurd j)
  stage_is P n (i ∷ is) rest fails passes =
      cases (bad i)
      (λ e. rw (first-here i is e) (fails i (inl refl)))
      (λ e. rw (first-later i is e) (stage_is P n is rest (λ j k. fails j (inr k)) (λ f. passes (λ j k. either k (λ q. rw q e) (f j)))))
