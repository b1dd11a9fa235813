-- A list of different numbers below n has at most n of them.
use mathlib.Core.Path.{refl, sym, ◌∙◌, subst}
use mathlib.Core.Bool.{Bool, not}
use mathlib.Core.List.{List, [], ◌∷◌}
use mathlib.Core.Logic.{inl}
use Prim.Native.Nat.{ℕ, zero, suc, ◌≤◌, ◌<◌}
use native.Mathlib.Omega.{arith}
use lib.Dec.{eqb}
use lib.ListN.{length}
use borrow.Author.Tests.{eqb-true, eqb-false}
use Rattle.objects.specs.Lists.{keep, In}
use Rattle.objects.proofs.ListLaws.{cases, clash, remove-none, In-keep, any_none}

abbrev pub Distinct : List ℕ → Type 0
Distinct [] = Unit {0}
Distinct (x ∷ xs) = (In x xs → ⊥) × Distinct xs

distinct-keep : (p : ℕ → Bool) (l : List ℕ) → Distinct l → Distinct (keep p l)
distinct-keep p [] d = tt
distinct-keep p (x ∷ xs) d =
    cases (p x)
    (λ e. rw e (λ i. d.0 (In-keep p xs x i).0, distinct-keep p xs d.1))
    (λ e. rw e (distinct-keep p xs d.1))

-- taking one number out of a list without repeats makes it shorter by one at most
taken : (m : ℕ) (l : List ℕ) → Distinct l → length l ≤ suc (length (keep (λ x. not (eqb x m)) l))
taken m [] d = omega arith
taken m (x ∷ xs) d =
    cases (eqb x m)
    (λ e. rw (e, remove-none (λ y. eqb y m) xs (any_none _ xs (λ y i. cases (eqb y m) (λ f. absurd (d.0 (subst (λ z. In z xs) (eqb-true y m f ∙ sym (eqb-true x m e)) i))) (λ f. f)))) (omega arith))
    (λ e. rw e (let h = taken m xs d.1 in omega arith))

pub pigeons : (n : ℕ) (l : List ℕ) → Distinct l → ((x : ℕ) → In x l → x < n) → length l ≤ n
pigeons zero [] d h = omega arith
pigeons zero (x ∷ xs) d h = let z = h x (inl refl) in omega arith
pigeons (suc m) l d h =
    let ih = pigeons m (keep (λ x. not (eqb x m)) l) (distinct-keep (λ x. not (eqb x m)) l d) smaller in
    let t = taken m l d in
    omega arith
  where
    smaller : (x : ℕ) → In x (keep (λ y. not (eqb y m)) l) → x < m
    smaller x i =
        let r = In-keep (λ y. not (eqb y m)) l x i in
        let b = h x r.0 in
        cases (eqb x m) (λ e. clash r.1 (rw e)) (λ e. let ne = eqb-false x m e in omega arith)
