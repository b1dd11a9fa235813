-- Methods that ascend by their ids: one that comes after the last of them comes after each, so it has the identity of none.
use mathlib.Core.Path.{◌≡◌, refl, sym}
use mathlib.Core.Bool.{true, false}
use mathlib.Core.List.{List, [], ◌∷◌, ◌++◌}
use mathlib.Core.Logic.{inl, inr}
use Rattle.objects.specs.Lists.{any, last_of, In, Sorted}
use Rattle.objects.specs.Table.{Table, Member}
use Rattle.objects.proofs.ListLaws.{any_none}
use Rattle.objects.proofs.BoolLaws.{false_of}
use Rattle.objects.proofs.PartLaws.{every-In, all_snoc}
use Rattle.text.specs.Bytes.{below_bytes}
use Rattle.text.proofs.ByteLaws.{below-trans}
use Rattle.rules.specs.Members.{identity_of, id_bytes, same_member}
use Rattle.rules.specs.Checks.{ascends}
use Rattle.rules.specs.Sound.{Lower}
use Rattle.rules.proofs.MemberLaws.{same_id-true}
use Rattle.rules.proofs.AscendLaws.{lower-apart}

-- ---- lists in order

module _ {A : Type 0} (R : A → A → Type 0) where
  -- what comes after the last comes after each
  after_last : ((x y z : A) → R x y → R y z → R x z) → (l : List A) (m : A) → Sorted R l → ((y : A) → In y (last_of l) → R y m) → (x : A) → In x l → R x m
  after_last trans [] m s h x x5 = elim x5 [ ]
  after_last trans (y ∷ []) m s h x (inl e) = rw e (h y (inl refl))
  after_last trans (y ∷ []) m s h x (inr i) = absurd i
  after_last trans (y ∷ z ∷ l) m s h x (inl e) = rw e (trans y z m (s.0 z (inl refl)) (after_last trans (z ∷ l) m s.1 h z (inl refl)))
  after_last trans (y ∷ z ∷ l) m s h x (inr i) = after_last trans (z ∷ l) m s.1 h x i

  sorted-snoc : (l : List A) (m : A) → Sorted R l → ((x : A) → In x l → R x m) → Sorted R (l ++ (m ∷ []))
  sorted-snoc [] m s h = (λ x i. absurd i, tt)
  sorted-snoc (y ∷ l) m s h = (all_snoc (R y) l m s.0 (h y (inl refl)), sorted-snoc l m s.1 (λ x i. h x (inr i)))

-- ---- methods

module _ (T : Table) (l : List Member) (m : Member) (s : Sorted (Lower T) l) (up : ascends T l m ≡ true) where
  lower-each : (x : Member) → In x l → Lower T x m
  lower-each =
      after_last (Lower T)
      (λ x y z. below-trans (id_bytes (identity_of T x)) (id_bytes (identity_of T y)) (id_bytes (identity_of T z)))
      l m s
      (λ y i. every-In (λ b. below_bytes (id_bytes (identity_of T b)) (id_bytes (identity_of T m))) (last_of l) y up i)

  pub none-same : any (same_member T m) l ≡ false
  none-same = any_none (same_member T m) l (λ x i. false_of (same_member T m x) (λ e. lower-apart T x m (sym (same_id-true (identity_of T m) (identity_of T x) e)) (lower-each x i)))

  pub rising-more : Sorted (Lower T) (l ++ (m ∷ []))
  rising-more = sorted-snoc (Lower T) l m s lower-each
