-- Further readings of the walks and of the levels, for the code's loops.
use mathlib.Core.Path.{◌≡◌, refl, sym, ap, ap₂, ◌∙◌}
use mathlib.Core.Bool.{Bool, true, false, cond, not, ◌||◌}
use mathlib.Core.List.{List, [], ◌∷◌, ◌++◌, map, append-nil}
use mathlib.Core.Logic.{inl, inr}
use Prim.Native.Nat.{ℕ, zero, suc}
use Rattle.objects.specs.Lists.{any, keep, flat, In}
use Rattle.objects.proofs.ListLaws.{cases, clash, or-false, any_none, none-In, keep-none, In-keep, flat_append, any-ext, any-In-ext, or_l, or_r}
use Rattle.objects.specs.declared.TypeKey.{TypeKey}
use Rattle.rules.specs.Ways.{Walk}
use Rattle.ways.specs.Graph.{Graph, Step, onward, walks}
use Rattle.ways.specs.Levels.{EmbeddedType, at, mark, twin, merge}
use Rattle.ways.proofs.Merge.{Lawful, merge-append, merge-keep, any-merge}

-- ---- the first step first: the other way to list walks

flat-flat : {A B C : Type 0} (f : B → List C) (g : A → List B) (l : List A) → flat f (flat g l) ≡ flat (λ x. flat f (g x)) l
flat-flat f g [] = refl
flat-flat f g (x ∷ xs) = rw (flat_append f (g x) (flat g xs), flat-flat f g xs)

flat-single : {A : Type 0} (l : List A) → flat (λ x. x ∷ []) l ≡ l
flat-single [] = refl
flat-single (x ∷ xs) = rw (flat-single xs)

pub walks-first : (G : Graph) (r : Walk) (d : ℕ) → walks G r (suc d) ≡ flat (λ v. walks G v d) (onward G r)
walks-first G r zero = append-nil (onward G r) ∙ sym (flat-single (onward G r))
walks-first G r (suc d) = rw (walks-first G r d) (flat-flat (onward G) (λ v. walks G v d) (onward G r))

-- ---- merging, one record after another

-- what the code does with one more record: mark those identical to it, and append it if there are none
abbrev pub add : Graph → List EmbeddedType → EmbeddedType → List EmbeddedType
add G M x = map (λ r. mark r (twin G r x)) M ++ cond (any (λ r. twin G r x) M) [] (x ∷ [])

pub merge-snoc : (G : Graph) → Lawful G → (L : List EmbeddedType) (x : EmbeddedType) → merge G (L ++ (x ∷ [])) ≡ add G (merge G L) x
merge-snoc G law L x = merge-append G law L (x ∷ []) ∙ simp or-false (cases (any (λ r. twin G r x) (merge G L)) (λ e. rw e) (λ e. rw e))

-- ---- what a merged level says of a type: nothing, or its first walk and whether there is another

abbrev pub squash : List EmbeddedType → List EmbeddedType
squash [] = []
squash (r ∷ rs) = mark r (any (λ s. true) rs) ∷ []

all-twins : (G : Graph) → Lawful G → (u : TypeKey) (M : List EmbeddedType) → ((r : EmbeddedType) → In r M → G.same u (at r) ≡ true) → merge G M ≡ squash M
all-twins G law u [] h = refl
all-twins G law u (r ∷ rs) h =
    ap₂ (λ b l. mark r b ∷ l)
    (any-In-ext (twin G r) (λ s. true) rs (λ s i. twins s i))
    (keep-none (λ s. not (twin G r s)) (merge G rs) (any-merge G law (λ b. not (G.same (at r) b)) (λ a b e. ap not (law.turn (at r) a ∙ law.chain a b (at r) e ∙ law.turn b (at r))) rs ∙ any_none _ rs (λ s i. ap not (twins s i))))
  where
    twins : (s : EmbeddedType) → In s rs → twin G r s ≡ true
    twins s i = sym (law.chain u (at r) (at s) (h r (inl refl))) ∙ h s (inr i)

pub merge-at : (G : Graph) → Lawful G → (u : TypeKey) (L : List EmbeddedType) → keep (λ r. G.same u (at r)) (merge G L) ≡ squash (keep (λ r. G.same u (at r)) L)
merge-at G law u L =
    sym (merge-keep G law (G.same u) (λ a b e. law.turn u a ∙ law.chain a b u e ∙ law.turn b u) L)
    ∙ all-twins G law u (keep (λ r. G.same u (at r)) L) (λ r i. (In-keep (λ x. G.same u (at x)) L r i).1)

-- ---- identical types embed identical types, pair by pair: what the table's identity gives

abbrev pub Pairs : (TypeKey → TypeKey → Bool) → List Step → List Step → Type 0
Pairs same [] [] = Unit {0}
Pairs same [] (t ∷ ts) = ⊥
Pairs same (s ∷ ss) [] = ⊥
Pairs same (s ∷ ss) (t ∷ ts) = (same s.target t.target ≡ true) × Pairs same ss ts

pub alike-pairs : (same : TypeKey → TypeKey → Bool) → ((u a b : TypeKey) → same a b ≡ true → same u a ≡ same u b) → (u : TypeKey) (l m : List Step) → Pairs same l m
    → any (λ s. same u s.target) l ≡ any (λ s. same u s.target) m
alike-pairs same cg u [] [] p = refl
alike-pairs same cg u [] (t ∷ ts) p = absurd p
alike-pairs same cg u (s ∷ ss) [] p = absurd p
alike-pairs same cg u (s ∷ ss) (t ∷ ts) p = ap₂ (λ a b. a || b) (cg u s.target t.target p.0) (alike-pairs same cg u ss ts p.1)

-- ---- marking the first identical one only, as the code does

abbrev pub add_first : Graph → List EmbeddedType → EmbeddedType → List EmbeddedType
add_first G [] x = x ∷ []
add_first G (r ∷ rs) x = cond (twin G r x) (mark r true ∷ rs) (r ∷ add_first G rs x)

-- no two identical
abbrev pub Apart : Graph → List EmbeddedType → Type 0
Apart G [] = Unit {0}
Apart G (r ∷ rs) = (any (twin G r) rs ≡ false) × Apart G rs

module _ (G : Graph) (law : Lawful G) where
  apart-keep : (q : EmbeddedType → Bool) (M : List EmbeddedType) → Apart G M → Apart G (keep q M)
  apart-keep q [] h = tt
  apart-keep q (r ∷ M) h =
      cases (q r)
      (λ e. rw e (any_none (twin G r) (keep q M) (λ s i. none-In (twin G r) M s h.0 (In-keep q M s i).0), apart-keep q M h.1))
      (λ e. rw e (apart-keep q M h.1))

  pub merge-apart : (L : List EmbeddedType) → Apart G (merge G L)
  merge-apart [] = tt
  merge-apart (r ∷ rs) = (
    any_none (twin G r) (keep (λ s. not (twin G r s)) (merge G rs)) (λ s i.
        let k = (In-keep (λ x. not (twin G r x)) (merge G rs) s i).1 in cases (twin G r s) (λ e. clash k (ap not e)) (λ e. e)),
    apart-keep (λ s. not (twin G r s)) (merge G rs) (merge-apart rs),
  )

  unmarked : (M : List EmbeddedType) (x : EmbeddedType) → any (λ r. twin G r x) M ≡ false → map (λ r. mark r (twin G r x)) M ≡ M
  unmarked [] x h = refl
  unmarked (r ∷ M) x h =
      ap₂ (λ a b. a ∷ b) (rw (or_l (twin G r x) (any (λ s. twin G s x) M) h, or-false r.multiples)) (unmarked M x (or_r (twin G r x) (any (λ s. twin G s x) M) h))

  pub add-first : (M : List EmbeddedType) (x : EmbeddedType) → Apart G M → add_first G M x ≡ add G M x
  add-first [] x h = refl
  add-first (r ∷ M) x h =
      cases (twin G r x)
      (λ e.
      let n : any (λ s. twin G s x) M ≡ false = sym (any-ext (twin G r) (λ s. twin G s x) (λ s. law.chain (at r) (at x) (at s) e ∙ law.turn (at x) (at s)) M) ∙ h.0 in
      rw (e, unmarked M x n, append-nil M))
      (λ e. rw (e, or-false r.multiples, add-first M x h.1))
