-- Laws of what agrees under labels (specs/Labels.antt): it is an equivalence, and identical types agree if labels keep them together.
use mathlib.Core.Path.{◌≡◌, refl, sym, ◌∙◌}
use mathlib.Core.Bool.{true}
use Prim.Native.Nat.{ℕ, ◌<◌}
use lib.ListN.{get_or}
use borrow.Author.Tests.{eqb-true, eq-eqb}
use Rattle.objects.specs.declared.TypeKey.{TypeKey}
use Rattle.objects.specs.Rows.{Words}
use Rattle.objects.specs.Table.{Table, size, type_key, members_of, kind_at}
use Rattle.objects.proofs.ListLaws.{and_l, and_r}
use Rattle.objects.proofs.BoolLaws.{and_i}
use Rattle.objects.proofs.PairLaws.{pairs-self, pairs-turn, pairs-trans}
use Rattle.rules.specs.Identity.{parts, identical}
use Rattle.rules.specs.StepIdentity.{same_step}
use Rattle.rules.specs.Sound.{Sound}
use Rattle.rules.proofs.MemberLaws.{Alike}
use Rattle.rules.proofs.StepLaws.{Holds, Agree, step-agree, agree-map}
use Rattle.rules.proofs.RangeLaws.{part-in}
use Rattle.rules.proofs.IdentityLaws.{identical-parts}
use Rattle.twins.specs.Labels.{same_label, agrees, Coarse}

module _ (labels : Words) (x y : TypeKey) where
  pub label_eq : same_label labels x y ≡ true → get_or labels x.0 0 ≡ get_or labels y.0 0
  unfolding same_label
  label_eq h = eqb-true (get_or labels x.0 0) (get_or labels y.0 0) h

  pub eq-label : get_or labels x.0 0 ≡ get_or labels y.0 0 → same_label labels x y ≡ true
  unfolding same_label
  eq-label e = eq-eqb (get_or labels x.0 0) (get_or labels y.0 0) e

module _ (T : Table) (labels : Words) where
  pub agrees-split : (x y : TypeKey) → agrees T labels x y ≡ true → (get_or labels x.0 0 ≡ get_or labels y.0 0) × Agree T (same_label labels) x y
  unfolding agrees
  agrees-split x y h =
      let one = same_label labels x y in
      let step = same_step T (same_label labels) x y in
      (label_eq labels x y (and_l one step h), (step-agree T (same_label labels) x y).0 (and_r one step h))

  agrees-join : (x y : TypeKey) → get_or labels x.0 0 ≡ get_or labels y.0 0 → Agree T (same_label labels) x y → agrees T labels x y ≡ true
  unfolding agrees
  agrees-join x y e a = and_i (eq-label labels x y e) ((step-agree T (same_label labels) x y).1 a)

  -- ---- an equivalence

  pub agrees-self : (x : TypeKey) → agrees T labels x x ≡ true
  agrees-self x = agrees-join x x refl (record {
    kinds = refl;
    owns = refl;
    members = pairs-self (Alike T) (members_of (kind_at T x)) (λ m i. (refl, refl, refl));
    related = pairs-self (Holds (same_label labels)) (parts (kind_at T x)) (λ p i. eq-label labels p p refl);
  })

  pub agrees-turn : (x y : TypeKey) → agrees T labels x y ≡ true → agrees T labels y x ≡ true
  agrees-turn x y h =
      let s = agrees-split x y h in
      let a = s.1 in
      agrees-join y x (sym s.0) (record {
        kinds = sym a.kinds;
        owns = sym a.owns;
        members = pairs-turn (Alike T) (Alike T) (members_of (kind_at T x)) (members_of (kind_at T y)) (λ m o f. (sym f.0, sym f.1, sym f.2)) a.members;
        related = pairs-turn (Holds (same_label labels)) (Holds (same_label labels)) (parts (kind_at T x)) (parts (kind_at T y)) (λ p q f. eq-label labels q p (sym (label_eq labels p q f))) a.related;
      })

  pub agrees-trans : (x y z : TypeKey) → agrees T labels x y ≡ true → agrees T labels y z ≡ true → agrees T labels x z ≡ true
  agrees-trans x y z h k =
      let s = agrees-split x y h in
      let t = agrees-split y z k in
      let a = s.1 in
      let b = t.1 in
      agrees-join x z (s.0 ∙ t.0) (record {
        kinds = a.kinds ∙ b.kinds;
        owns = a.owns ∙ b.owns;
        members =
            pairs-trans (Alike T) (Alike T) (Alike T) (members_of (kind_at T x)) (members_of (kind_at T y)) (members_of (kind_at T z))
            (λ l m o f g. (f.0 ∙ g.0, f.1 ∙ g.1, f.2 ∙ g.2)) a.members b.members;
        related = pairs-trans (Holds (same_label labels)) (Holds (same_label labels)) (Holds (same_label labels)) (parts (kind_at T x)) (parts (kind_at T y)) (parts (kind_at T z))
            (λ p q r f g. eq-label labels p r (label_eq labels p q f ∙ label_eq labels q r g)) a.related b.related;
      })

  -- identical types agree
  pub identical-agrees : Sound T → Coarse T labels → (t u : ℕ) → t < size T → u < size T → identical T (type_key t) (type_key u) ≡ true → agrees T labels (type_key t) (type_key u) ≡ true
  identical-agrees sound coarse t u h k e =
      agrees-join (type_key t) (type_key u) (coarse.kept t u h k e)
      (agree-map T (identical T) (same_label labels) (type_key t) (type_key u)
      (λ a b i j f. eq-label labels a b (coarse.kept a.0 b.0 (part-in T sound (type_key t) a i) (part-in T sound (type_key u) b j) f))
      ((identical-parts T sound (type_key t) (type_key u)).0 e))
