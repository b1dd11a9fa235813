-- Laws of classes of types (specs/Classes.antt): labels that are numbered, labels that are changed one by one, and two classes that are joined by giving
-- one the label of the other.
use mathlib.Core.Path.{◌≡◌, refl, sym, ap, ◌∙◌}
use mathlib.Core.List.{List, [], ◌∷◌}
use mathlib.Core.Logic.{◌⊎◌, inl, inr}
use Prim.Native.Nat.{ℕ, zero, suc, ◌+◌, ◌<◌, ◌≤◌}
use native.Mathlib.Omega.{arith}
use lib.Dec.{eqb}
use lib.ListN.{length, get_or, set, length-map}
use lib.Seq.{get_or-set_same, get_or-set_other, ext_get_or}
use borrow.Author.Count.{below_more}
use borrow.Author.Tests.{eqb-true, eqb-false, eq-eqb, ne_eqb}
use Rattle.objects.specs.declared.TypeKey.{TypeKey}
use Rattle.objects.proofs.ListLaws.{cases, either}
use Rattle.pair_marks.specs.Classes.{OneClass, Rooted, Single, new_label, relabelled, Joined}

-- ---- labels are numbered

-- each is then the number of its type
pub rooted-single : (n : ℕ) (l : List ℕ) → n ≤ length l → Single l → Rooted n l
rooted-single n l h s = record {
  long = h;
  small = λ i lt. omega (arith, s i (omega arith));
  own = λ i lt. let e = s i (omega arith) in ap (λ (k : ℕ). get_or l k 0) e;
}

-- ---- one label gives way to another

module _ (new old : ℕ) where
  pub label-old : (c : ℕ) → c ≡ old → new_label new old c ≡ new
  unfolding new_label
  label-old c e = rw (eq-eqb c old e)

  pub label-other : (c : ℕ) → (c ≡ old → ⊥) → new_label new old c ≡ c
  unfolding new_label
  label-other c h = rw (ne_eqb c old h)

  -- the new label stays
  label-new : (c : ℕ) → c ≡ new → new_label new old c ≡ new
  label-new c e = cases (eqb c old) (λ p. label-old c (eqb-true c old p)) (λ p. label-other c (eqb-false c old p) ∙ e)

  -- labels that have become one were one, or are the two
  label-back : (c d : ℕ) → new_label new old c ≡ new_label new old d → (c ≡ d) ⊎ (((c ≡ new) × (d ≡ old)) ⊎ ((c ≡ old) × (d ≡ new)))
  label-back c d e =
      cases (eqb c old)
      (λ p. let u = eqb-true c old p in cases (eqb d old)
      (λ q. inl (u ∙ sym (eqb-true d old q)))
      (λ q. inr (inr (u, sym (label-other d (eqb-false d old q)) ∙ sym e ∙ label-old c u))))
      (λ p. let u = label-other c (eqb-false c old p) in cases (eqb d old)
      (λ q. let v = eqb-true d old q in inr (inl (sym u ∙ e ∙ label-old d v, v)))
      (λ q. inl (sym u ∙ e ∙ label-other d (eqb-false d old q))))

  relabelled-long : (l : List ℕ) → length (relabelled new old l) ≡ length l
  unfolding relabelled
  relabelled-long l = length-map l (new_label new old)

  relabelled-at : (l : List ℕ) (i : ℕ) → i < length l → get_or (relabelled new old l) i 0 ≡ new_label new old (get_or l i 0)
  unfolding relabelled
  relabelled-at [] i h = absurd (omega arith)
  relabelled-at (c ∷ l) zero h = refl
  relabelled-at (c ∷ l) (suc i) h = relabelled-at l i (omega arith)

  -- ---- one by one

  -- the labels below i are new, the others old
  abbrev pub Changed : List ℕ → List ℕ → ℕ → Type 0
  Changed l₀ l i = ((k : ℕ) → k < i → get_or l k 0 ≡ new_label new old (get_or l₀ k 0)) × ((k : ℕ) → i ≤ k → get_or l k 0 ≡ get_or l₀ k 0)

  pub changed-more : (l₀ l : List ℕ) (i v : ℕ) → i < length l → v ≡ new_label new old (get_or l i 0) → Changed l₀ l i → Changed l₀ (set l i v) (i + 1)
  changed-more l₀ l i v h e z = (
    below_more (λ (k : ℕ). get_or (set l i v) k 0 ≡ new_label new old (get_or l₀ k 0)) i
        (λ k lt. get_or-set_other l i k v 0 (λ q. omega arith) ∙ z.0 k lt)
        (get_or-set_same l i v 0 h ∙ e ∙ ap (new_label new old) (z.1 i (omega arith))),
    λ k le. get_or-set_other l i k v 0 (λ q. omega arith) ∙ z.1 k (omega arith),
  )

  pub changed-all : (l₀ l : List ℕ) (i : ℕ) → length l ≡ length l₀ → length l ≤ i → Changed l₀ l i → l ≡ relabelled new old l₀
  changed-all l₀ l i e le z = ext_get_or 0 l (relabelled new old l₀) (e ∙ sym (relabelled-long l₀)) (λ k lt. z.0 k (omega arith) ∙ sym (relabelled-at l₀ k (omega arith)))

-- ---- two classes are joined

-- c is one of n types, and its own label
abbrev Root : ℕ → List ℕ → ℕ → Type 0
Root n l c = (c < n) × (get_or l c 0 ≡ c)

-- the class of y takes the label of x
pub joined : (l l' : List ℕ) (x y : TypeKey) → x.0 < length l → y.0 < length l → l' ≡ relabelled (get_or l x.0 0) (get_or l y.0 0) l → Joined l l' x y
unfolding OneClass
joined l l' x y hx hy e = rw e (record { rooted = rooted; one = one; kept = kept; only = only })
  where
    new : ℕ
    new = get_or l x.0 0

    old : ℕ
    old = get_or l y.0 0

    at : (i : ℕ) → i < length l → get_or (relabelled new old l) i 0 ≡ new_label new old (get_or l i 0)
    at = relabelled-at new old l

    -- the label of x, and each other that does not give way, is still the number of a type of its class
    rooted : (n : ℕ) → x.0 < n → y.0 < n → Rooted n l → Rooted n (relabelled new old l)
    rooted n nx ny r = record {
      long = omega (arith, relabelled-long new old l, r.long);
      small = λ i h. rw (at i (inside i h)) (root i h).0;
      own = λ i h. rw (at i (inside i h)) (root i h).1;
    }
      where
        inside : (i : ℕ) → i < n → i < length l
        inside i h = omega (arith, r.long)

        stays : (i : ℕ) → i < n → new_label new old (get_or l i 0) ≡ get_or l i 0 → Root n (relabelled new old l) (get_or l i 0)
        stays i h e = (r.small i h, at (get_or l i 0) (inside (get_or l i 0) (r.small i h)) ∙ ap (new_label new old) (r.own i h) ∙ e)

        root : (i : ℕ) → i < n → Root n (relabelled new old l) (new_label new old (get_or l i 0))
        root i h =
            cases (eqb (get_or l i 0) old)
            (λ p. rw (label-old new old (get_or l i 0) (eqb-true (get_or l i 0) old p)) (stays x.0 nx (label-new new old new refl)))
            (λ p. let e = label-other new old (get_or l i 0) (eqb-false (get_or l i 0) old p) in rw e (stays i h e))

    one : OneClass (relabelled new old l) x y
    one = at x.0 hx ∙ label-new new old (get_or l x.0 0) refl ∙ sym (label-old new old (get_or l y.0 0) refl) ∙ sym (at y.0 hy)

    kept : (a b : TypeKey) → a.0 < length l → b.0 < length l → OneClass l a b → OneClass (relabelled new old l) a b
    kept a b ha hb o = at a.0 ha ∙ ap (new_label new old) o ∙ sym (at b.0 hb)

    only : (a b : TypeKey) → a.0 < length l → b.0 < length l → OneClass (relabelled new old l) a b → OneClass l a b ⊎ ((OneClass l a x × OneClass l y b) ⊎ (OneClass l a y × OneClass l x b))
    only a b ha hb o =
        either (label-back new old (get_or l a.0 0) (get_or l b.0 0) (sym (at a.0 ha) ∙ o ∙ at b.0 hb))
        (λ s. inl s)
        (λ s. either s (λ t. inr (inl (t.0, sym t.1))) (λ t. inr (inr (t.0, sym t.1))))
