-- Refusal 10 along a map of tables: no type of U that comes from T contains itself by value. A round in U could be walked in T again and again, without end, though T has
-- no round and finitely many types.
use mathlib.Core.Path.{◌≡◌, refl, sym, ap, ap₂, ◌∙◌, subst}
use mathlib.Core.Bool.{Bool, true, false, cond, ◌||◌}
use mathlib.Core.List.{List, [], ◌∷◌, ◌++◌, map}
use Prim.Native.Nat.{ℕ, zero, suc, ◌≤◌, ◌<◌}
use native.Mathlib.Omega.{arith}
use lib.Dec.{eqb}
use lib.ListN.{length, length-append, length-map}
use Rattle.objects.specs.Lists.{In, last_or}
use Rattle.objects.proofs.ListLaws.{either, In-map}
use Rattle.objects.proofs.KeyLaws.{key-eq, same_key, same_self}
use Rattle.objects.proofs.Pigeons.{Distinct, pigeons}
use Rattle.objects.specs.declared.TypeKey.{TypeKey}
use Rattle.objects.specs.declared.PackageKey.{PackageKey}
use Rattle.objects.specs.Table.{Table, size, same_type, Member, kind_number, refs, fields_of, kind_at}
use Rattle.rules.specs.Chains.{Chain, here, there}
use Rattle.rules.specs.Checks.{contents}
use Rattle.rules.specs.Sound.{Sound}
use Rattle.rules.proofs.RangeLaws.{content-in}
use Rattle.carry.specs.Maps.{Maps}
use Rattle.carry.proofs.Pairing.{graph-pairs}
use Rattle.carry.proofs.Lines.{types-carried}

-- ---- paths of contents

module _ (T : Table) where
  -- each of the list is contained in the one before it, the first in x
  abbrev Path : TypeKey → List TypeKey → Type 0
  Path x [] = Unit {0}
  Path x (y ∷ l) = In y (contents T x) × Path y l

  path-chain : (y : TypeKey) (l : List TypeKey) → Path y l → (z : TypeKey) → In z (y ∷ l) → Chain (contents T) (same_type z) y
  path-chain y [] a z i = either i (λ e. here (subst (λ w. same_type z w ≡ true) e (same_self z))) (λ j. absurd j)
  path-chain y (w ∷ l) a z i = either i (λ e. here (subst (λ w. same_type z w ≡ true) e (same_self z))) (λ j. there a.0 (path-chain w l a.1 z j))

  path-append : (x : TypeKey) (l m : List TypeKey) → Path x l → Path (last_or x l) m → Path x (l ++ m)
  path-append x [] m a b = b
  path-append x (y ∷ l) m a b = (a.0, path-append y l m a.1 b)

module _ (T : Table) (sound : Sound T) where
  path-in : (x : TypeKey) (l : List TypeKey) → x.0 < size T → Path T x l → (z : TypeKey) → In z (x ∷ l) → z.0 < size T
  path-in x [] h a z i = either i (λ e. rw e h) (λ j. absurd j)
  path-in x (y ∷ l) h a z i = either i (λ e. rw e h) (λ j. path-in y l (content-in T sound x y a.0) a.1 z j)

  path-distinct : (x : TypeKey) (l : List TypeKey) → Path T x l → Distinct (map (λ (z : TypeKey). z.0) (x ∷ l))
  path-distinct x [] a = (λ i. i, tt)
  path-distinct x (y ∷ l) a = (λ i. again (In-map (λ (z : TypeKey). z.0) (y ∷ l) x.0 i), path-distinct y l a.1)
    where
      again : (z : TypeKey) × In z (y ∷ l) × (x.0 ≡ z.0) → ⊥
      again r = sound.well_founded x y a.0 (subst (λ z. Chain (contents T) (same_type z) y) (sym (key-eq x r.0 r.2)) (path-chain T y l a.1 r.0 r.1))

  path-short : (x : TypeKey) (l : List TypeKey) → x.0 < size T → Path T x l → length l < size T
  path-short x l h a =
      let b = pigeons (size T) (map (λ (z : TypeKey). z.0) (x ∷ l)) (path-distinct x l a) (λ n i. let r = In-map (λ (z : TypeKey). z.0) (x ∷ l) n i in rw r.2 (path-in x l h a r.0 r.1)) in
      omega (arith, length-map l (λ (z : TypeKey). z.0))

  last-in : (x : TypeKey) (l : List TypeKey) → x.0 < size T → Path T x l → (last_or x l).0 < size T
  last-in x [] h a = h
  last-in x (y ∷ l) h a = last-in y l (content-in T sound x y a.0) a.1

module _ (f : TypeKey → TypeKey) (p : PackageKey → PackageKey) (T U : Table) (sound : Sound T) (g : Maps f p T U) where
  contents-kept : (t : TypeKey) → t.0 < size T → contents U (f t) ≡ map f (contents T t)
  contents-kept t h =
      let c = g.line t h in
      let types : List Member → List TypeKey = map (λ m. m.type) in
      let carried = types-carried (λ a b. b ≡ f a) T U (fields_of (kind_at T t)) (fields_of (kind_at U (f t))) c.fields in
      ap₂ (λ (a : List TypeKey) (b : List TypeKey). cond (eqb (kind_number (kind_at U (f t))) 1 || eqb (kind_number (kind_at U (f t))) 10) a b)
      (graph-pairs f (refs (kind_at T t)) (refs (kind_at U (f t))) c.refers) (graph-pairs f (types (fields_of (kind_at T t))) (types (fields_of (kind_at U (f t)))) carried)
      ∙ ap (λ (n : ℕ). cond (eqb n 1 || eqb n 10) (map f (refs (kind_at T t))) (map f (map (λ (m : Member). m.type) (fields_of (kind_at T t))))) c.kind
      ∙ cond_map (eqb (kind_number (kind_at T t)) 1 || eqb (kind_number (kind_at T t)) 10) (refs (kind_at T t)) (map (λ (m : Member). m.type) (fields_of (kind_at T t)))
    where
      cond_map : (b : Bool) (l m : List TypeKey) → cond b (map f l) (map f m) ≡ map f (cond b l m)
      cond_map true l m = refl
      cond_map false l m = refl

  -- a path of T, not of no steps or perhaps, that leads to a type that becomes u
  abbrev Leads : TypeKey → TypeKey → Type 0
  Leads u x = (l : List TypeKey) × Path T x l × (f (last_or x l) ≡ u)

  lifted : (u v : TypeKey) → Chain (contents U) (same_type u) v → (y : TypeKey) → v ≡ f y → y.0 < size T → Leads u y
  lifted u v (here e) y z h = ([], tt, sym (same_key u v e ∙ z))
  lifted u v (there {y = w} i c) y z h =
      let r = In-map f (contents T y) w (subst (In w) (ap (contents U) z ∙ contents-kept y h) i) in
      let s = lifted u w c r.0 r.2 (content-in T sound y r.0 r.1) in
      (r.0 ∷ s.0, (r.1, s.1), s.2)

  module _ (u e : TypeKey) (i : In e (contents U u)) (c : Chain (contents U) (same_type u) e) where
    -- once round, from whichever type that becomes u
    once : (x : TypeKey) → x.0 < size T → f x ≡ u → (l : List TypeKey) × Path T x l × (f (last_or x l) ≡ u) × (0 < length l)
    once x h z =
        let r = In-map f (contents T x) e (subst (In e) (ap (contents U) (sym z) ∙ contents-kept x h) i) in
        let s = lifted u e c r.0 r.2 (content-in T sound x r.0 r.1) in
        (r.0 ∷ s.0, (r.1, s.1), s.2, omega arith)

    rounds : (n : ℕ) (x : TypeKey) → x.0 < size T → f x ≡ u → (l : List TypeKey) × Path T x l × (n ≤ length l)
    rounds zero x h z = ([], tt, omega arith)
    rounds (suc n) x h z =
        let a = once x h z in
        let b = rounds n (last_or x a.0) (last-in T sound x a.0 h a.1) a.2 in
        let k = a.3 in
        let j = b.2 in
        (a.0 ++ b.0, path-append T x a.0 b.0 a.1 b.1, omega (arith, length-append a.0 b.0))

  -- NO ROUND IN U THROUGH WHAT COMES FROM T
  pub no-round : (t e : TypeKey) → t.0 < size T → In e (contents U (f t)) → Chain (contents U) (same_type (f t)) e → ⊥
  no-round t e h i c =
      let r = rounds (f t) e i c (size T) t h refl in
      let s = path-short T sound t r.0 h r.1 in
      let k = r.2 in
      omega arith
