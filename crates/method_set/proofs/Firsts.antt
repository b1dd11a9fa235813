-- Methods and fields of one name in an order in which no level is less deep than the first one's: what leads them, and whether it hides the first method.
use mathlib.Core.Path.{◌≡◌, refl, sym, ap, ◌∙◌, subst}
use mathlib.Core.Bool.{Bool, true, false, not, ◌||◌}
use mathlib.Core.List.{List, [], ◌∷◌, ◌++◌}
use mathlib.Core.Logic.{◌⊎◌, inl, inr}
use Prim.Native.Nat.{ℕ, ◌≤◌}
use native.Mathlib.Omega.{arith}
use lib.Dec.{eqb, leb}
use borrow.Author.Tests.{leb-true, leb-false, eq-eqb, ne_eqb, le-leb}
use Rattle.objects.specs.Lists.{any, keep, In}
use Rattle.objects.proofs.ListLaws.{cases, either, or-true, any-In, any_none, none-In, some-In, any-sub, In-keep, In-append, keep-In-to}

module _ {A : Type 0} (level : A → ℕ) where
  -- none is less deep than the first
  abbrev pub Leads : List A → Type 0
  Leads [] = Unit {0}
  Leads (x ∷ l) = (y : A) → In y l → level x ≤ level y

  pub leads-all : (l : List A) → ((x y : A) → In x l → In y l → level x ≤ level y) → Leads l
  leads-all [] h = tt
  leads-all (x ∷ l) h = λ y i. h x y (inl refl) (inr i)

  pub leads-on : (l m : List A) → Leads l → Leads m → ((x y : A) → In x l → In y m → level x ≤ level y) → Leads (l ++ m)
  leads-on [] m a b h = b
  leads-on (x ∷ l) m a b h = λ y i. either (In-append l m y i) (a y) (λ j. h x y (inl refl) j)

  module _ (is_method : A → Bool) where
    abbrev is_field : A → Bool
    is_field v = not (is_method v)

    -- another method hides x on its level, a field where it is not deeper
    abbrev hidden : A → List A → List A → Bool
    hidden x methods fields = any (λ v. eqb (level x) (level v)) methods || any (λ v. leb (level v) (level x)) fields

    -- behind x the fields that are not deeper are of its level
    beside_first : (x : A) (l : List A) → ((y : A) → In y l → level x ≤ level y) → hidden x (keep is_method l) (keep is_field l) ≡ any (λ v. eqb (level x) (level v)) l
    beside_first x l a =
        cases (any even (keep is_method l))
        (λ e. rw e (sym (any-sub even is_method l e)))
        (λ e. rw e (cases (any over (keep is_field l)) (λ f. f ∙ sym (tied f)) (λ f. f ∙ sym (any_none even l (alone e f)))))
      where
        even : A → Bool
        even v = eqb (level x) (level v)

        over : A → Bool
        over v = leb (level v) (level x)

        tied : any over (keep is_field l) ≡ true → any even l ≡ true
        tied f =
            let v = some-In over (keep is_field l) f in
            let i = (In-keep is_field l v.0 v.1).0 in
            let low = leb-true (level v.0) (level x) v.2 in
            let deep = a v.0 i in
            any-In even l v.0 i (eq-eqb (level x) (level v.0) (omega arith))

        alone : any even (keep is_method l) ≡ false → any over (keep is_field l) ≡ false → (v : A) → In v l → even v ≡ false
        alone e f v i =
            cases (is_method v)
            (λ y. none-In even (keep is_method l) v e (keep-In-to is_method l v i y))
            (λ n. let deep = leb-false (level v) (level x) (none-In over (keep is_field l) v f (keep-In-to is_field l v i (ap not n))) in ne_eqb (level x) (level v) (λ z. absurd (omega arith)))

    -- THE FIRST METHOD LEADS, and is hidden exactly if another of all is of its level; or a field leads, and hides it.
    pub first_of : (l : List A) (x : A) (methods fields : List A) → Leads l → keep is_method l ≡ x ∷ methods → keep is_field l ≡ fields
        → ((rest : List A) × (l ≡ x ∷ rest) × (hidden x methods fields ≡ any (λ v. eqb (level x) (level v)) rest))
        ⊎ ((y : A) × (rest : List A) × (l ≡ y ∷ rest) × (is_method y ≡ false) × (hidden x methods fields ≡ true))
    first_of [] x methods fields a em ef = absurd (subst (In x) (sym em) (inl refl))
    first_of (y ∷ l) x methods fields a em ef =
        cases (is_method y)
        (λ m.
        let es : y ∷ keep is_method l ≡ x ∷ methods = rw m at em in
        let er : keep is_field l ≡ fields = rw m at ef in
        let same : y ≡ x = cc in
        let rest : keep is_method l ≡ methods = cc in
        inl (l, ap (λ z. z ∷ l) same, rw (← same, ← rest, ← er) (beside_first y l a)))
        (λ m.
        let es : keep is_method l ≡ x ∷ methods = rw m at em in
        let er : y ∷ keep is_field l ≡ fields = rw m at ef in
        let low = a x (In-keep is_method l x (subst (In x) (sym es) (inl refl))).0 in
        inr (y, l, refl, m, rw (← er, le-leb (level y) (level x) low) (or-true (any (λ v. eqb (level x) (level v)) methods))))
