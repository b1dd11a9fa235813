-- Lines with other numbers (specs/Carried.antt): their members, and when two maps carry a type's lines alike.
use mathlib.Core.Path.{◌≡◌, refl, ap, ap₂, ◌∙◌}
use mathlib.Core.List.{List, [], ◌∷◌, map}
use mathlib.Core.Logic.{inl, inr}
use mathlib.Core.Option.{Option, none, some}
use Rattle.objects.specs.Lists.{In, mapped}
use Rattle.objects.specs.declared.TypeKey.{TypeKey}
use Rattle.objects.specs.declared.PackageKey.{PackageKey}
use Rattle.objects.specs.Table.{Member, Kind, Basic, Array, Slice, Pointer, Map, Chan, Tuple, Func, Struct, Iface, Named, refs, members_of}
use Rattle.objects.proofs.ListLaws.{map-In}
use Rattle.edits.specs.Carried.{carry_member, carry_kind}

pub carry-members : (f : TypeKey → TypeKey) (p : PackageKey → PackageKey) (k : Kind) → members_of (carry_kind f p k) ≡ map (carry_member f p) (members_of k)
carry-members f p (Basic k) = refl
carry-members f p (Array n e) = refl
carry-members f p (Slice e) = refl
carry-members f p (Pointer e) = refl
carry-members f p (Map k e) = refl
carry-members f p (Chan d e) = refl
carry-members f p (Tuple es) = refl
carry-members f p (Func v a r) = refl
carry-members f p (Struct ms) = refl
carry-members f p (Iface ms) = refl
carry-members f p (Named u ms) = refl

-- ---- two maps that carry the references of a type alike

module _ (f g : TypeKey → TypeKey) (p : PackageKey → PackageKey) where
  members-agree : (ms : List Member) → ((m : Member) → In m ms → f m.type ≡ g m.type) → map (carry_member f p) ms ≡ map (carry_member g p) ms
  members-agree ms h = map-In (carry_member f p) (carry_member g p) ms (λ m i. same m (h m i))
    where
      same : (m : Member) → f m.type ≡ g m.type → carry_member f p m ≡ carry_member g p m
      same m e = rw e

  pub kind-agree : (k : Kind) → ((e : TypeKey) → In e (refs k) → f e ≡ g e) → ((m : Member) → In m (members_of k) → f m.type ≡ g m.type) → carry_kind f p k ≡ carry_kind g p k
  kind-agree (Basic k) h l = refl
  kind-agree (Array n e) h l = ap (Array n) (h e (inl refl))
  kind-agree (Slice e) h l = ap Slice (h e (inl refl))
  kind-agree (Pointer e) h l = ap Pointer (h e (inl refl))
  kind-agree (Map k e) h l = ap₂ Map (h k (inl refl)) (h e (inr (inl refl)))
  kind-agree (Chan d e) h l = ap (Chan d) (h e (inl refl))
  kind-agree (Tuple es) h l = ap Tuple (map-In f g es h)
  kind-agree (Func v a r) h l = ap₂ (Func v) (h a (inl refl)) (h r (inr (inl refl)))
  kind-agree (Struct ms) h l = ap Struct (members-agree ms l)
  kind-agree (Iface ms) h l = ap Iface (members-agree ms l)
  kind-agree (Named u ms) h l = ap₂ Named (h u (inl refl)) (members-agree ms l)

-- ---- a map by which they stay

pub package-same : (p : Option PackageKey) → mapped (λ (k : PackageKey). k) p ≡ p
package-same none = refl
package-same (some k) = refl

all-same : {A : Type 0} (f : A → A) → ((x : A) → f x ≡ x) → (l : List A) → map f l ≡ l
all-same f h [] = refl
all-same f h (x ∷ l) = ap₂ (λ a b. a ∷ b) (h x) (all-same f h l)

members-same : (ms : List Member) → map (carry_member (λ t. t) (λ p. p)) ms ≡ ms
members-same = all-same (carry_member (λ t. t) (λ p. p)) (λ m. rw (package-same m.pkg))

kind-same : (k : Kind) → carry_kind (λ t. t) (λ p. p) k ≡ k
kind-same (Basic k) = refl
kind-same (Array n e) = refl
kind-same (Slice e) = refl
kind-same (Pointer e) = refl
kind-same (Map k e) = refl
kind-same (Chan d e) = refl
kind-same (Tuple es) = ap Tuple (all-same (λ t. t) (λ t. refl) es)
kind-same (Func v a r) = refl
kind-same (Struct ms) = ap Struct (members-same ms)
kind-same (Iface ms) = ap Iface (members-same ms)
kind-same (Named u ms) = ap (Named u) (members-same ms)

pub kind-stays : (f : TypeKey → TypeKey) (k : Kind) → ((e : TypeKey) → In e (refs k) → f e ≡ e) → ((m : Member) → In m (members_of k) → f m.type ≡ m.type) → carry_kind f (λ p. p) k ≡ k
kind-stays f k h l = kind-agree f (λ t. t) (λ p. p) k h l ∙ kind-same k
