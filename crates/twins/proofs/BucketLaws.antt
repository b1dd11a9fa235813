-- Laws of buckets (specs/Chains.antt): types that agree are in one, and hashes grow part by part.
use mathlib.Core.Path.{◌≡◌, refl, ap}
use mathlib.Core.Bool.{true}
use mathlib.Core.List.{List, [], ◌∷◌, ◌++◌}
use Prim.Native.Nat.{ℕ, ◌%◌}
use lib.ListN.{get_or}
use Rattle.objects.specs.declared.TypeKey.{TypeKey}
use Rattle.objects.specs.Rows.{Words}
use Rattle.objects.specs.Table.{Table, Member, members_of, kind_at}
use Rattle.objects.proofs.PairLaws.{AllPairs}
use Rattle.text.specs.Hash.{hash_from}
use Rattle.rules.specs.Members.{identity_from, identity_of}
use Rattle.rules.specs.Identity.{parts}
use Rattle.rules.proofs.MemberLaws.{Alike}
use Rattle.rules.proofs.StepLaws.{Holds}
use Rattle.twins.specs.Labels.{same_label, agrees}
use Rattle.twins.specs.Chains.{mixed, mixed_labels, first_name, buckets, bucket_of}
use Rattle.twins.proofs.AgreeLaws.{label_eq, agrees-split}

module _ (labels : Words) where
  labels-same : (h : ℕ) (ps qs : List TypeKey) → AllPairs (Holds (same_label labels)) ps qs → mixed_labels labels h ps ≡ mixed_labels labels h qs
  unfolding mixed_labels
  labels-same h [] [] a = refl
  labels-same h [] (q ∷ qs) a = absurd a
  labels-same h (p ∷ ps) [] a = absurd a
  labels-same h (p ∷ ps) (q ∷ qs) a = rw (label_eq labels p q a.0) (labels-same (mixed h (get_or labels q.0 0)) ps qs a.1)

  -- one part more
  pub labels-more : (h : ℕ) (ps : List TypeKey) (p : TypeKey) → mixed_labels labels h (ps ++ (p ∷ [])) ≡ mixed (mixed_labels labels h ps) (get_or labels p.0 0)
  unfolding mixed_labels
  labels-more h [] p = refl
  labels-more h (q ∷ ps) p = labels-more (mixed h (get_or labels q.0 0)) ps p

module _ (T : Table) where
  name-same : (m n : Member) → Alike T m n → m.name ≡ n.name
  unfolding identity_of identity_from
  name-same m n a = ap (λ i. i.name) a.0

  first-same : (ms ns : List Member) → AllPairs (Alike T) ms ns → first_name ms ≡ first_name ns
  unfolding first_name
  first-same [] [] a = refl
  first-same [] (n ∷ ns) a = absurd a
  first-same (m ∷ ms) [] a = absurd a
  first-same (m ∷ ms) (n ∷ ns) a = ap (hash_from 0) (name-same m n a.0)

  -- TYPES THAT AGREE ARE IN ONE BUCKET
  pub agrees-bucket : (labels : Words) (x y : TypeKey) → agrees T labels x y ≡ true → bucket_of T labels x ≡ bucket_of T labels y
  unfolding bucket_of
  agrees-bucket labels x y h =
      let s = agrees-split T labels x y h in
      let a = s.1 in
      ap (λ (n : ℕ). n % buckets)
      (rw (first-same (members_of (kind_at T x)) (members_of (kind_at T y)) a.members, a.kinds, a.owns, s.0) (labels-same labels _ (parts (kind_at T x)) (parts (kind_at T y)) a.related))
