-- Laws of the identity of members (specs/Members.antt, specs/Identity.antt): the test is equality, for an identity holds no more than what counts.
use mathlib.Core.Path.{◌≡◌, refl, ap, ap₂}
use mathlib.Core.Bool.{true, ◌&&◌, beq}
use mathlib.Core.List.{List, [], ◌∷◌}
use mathlib.Core.Option.{Option, none, some}
use Rattle.objects.specs.Lists.{Bytes}
use Rattle.objects.specs.Table.{Table, Member, is_embedded, tag_of}
use Rattle.objects.proofs.ListLaws.{clash, and_l, and_r}
use Rattle.objects.proofs.BoolLaws.{and_i, beq-true, beq-self}
use Rattle.objects.proofs.PairLaws.{AllPairs}
use Rattle.text.specs.Bytes.{same_bytes}
use Rattle.text.proofs.ByteLaws.{same_refl, same_true}
use Rattle.rules.specs.Members.{Identity, same_path, same_id, same_member, identity_of}
use Rattle.rules.specs.Identity.{alike_member, alike}

pub same_path-true : (p q : Option Bytes) → same_path p q ≡ true → p ≡ q
same_path-true none none h = refl
same_path-true none (some q) h = clash h refl
same_path-true (some p) none h = clash h refl
same_path-true (some p) (some q) h = ap (λ s. some s) (same_true p q h)

pub same_path-self : (p : Option Bytes) → same_path p p ≡ true
same_path-self none = refl
same_path-self (some p) = same_refl p

pub same_id-true : (a b : Identity) → same_id a b ≡ true → a ≡ b
unfolding same_id
same_id-true a b h =
    ap₂ (λ (n : Bytes) (p : Option Bytes). record { name = n; path = p })
    (same_true a.name b.name (and_l (same_bytes a.name b.name) (same_path a.path b.path) h))
    (same_path-true a.path b.path (and_r (same_bytes a.name b.name) (same_path a.path b.path) h))

pub same_id-self : (a : Identity) → same_id a a ≡ true
unfolding same_id
same_id-self a = and_i (same_refl a.name) (same_path-self a.path)

pub same_id-eq : (a b : Identity) → a ≡ b → same_id a b ≡ true
same_id-eq a b e = rw e (same_id-self b)

-- ---- members alike: one identity, both embedded or neither, one tag

abbrev pub Alike : Table → Member → Member → Type 0
Alike T m n = (identity_of T m ≡ identity_of T n) × (is_embedded m.entity ≡ is_embedded n.entity) × (tag_of m.entity ≡ tag_of n.entity)

module _ (T : Table) where
  pub alike_member-split : (m n : Member) → alike_member T m n ≡ true → Alike T m n
  alike_member-split m n h =
      let ids = same_member T m n in
      let embs = beq (is_embedded m.entity) (is_embedded n.entity) in
      let tags = same_bytes (tag_of m.entity) (tag_of n.entity) in
      let a = and_l (ids && embs) tags h in
      (same_id-true (identity_of T m) (identity_of T n) (and_l ids embs a), beq-true (is_embedded m.entity) (is_embedded n.entity) (and_r ids embs a), same_true (tag_of m.entity) (tag_of n.entity) (and_r (ids && embs) tags h))

  pub alike_member-join : (m n : Member) → Alike T m n → alike_member T m n ≡ true
  alike_member-join m n a =
      and_i (and_i (same_id-eq (identity_of T m) (identity_of T n) a.0) (rw a.1 (beq-self (is_embedded n.entity)))) (rw a.2 (same_refl (tag_of n.entity)))

  pub alike-split : (ms ns : List Member) → alike T ms ns ≡ true → AllPairs (Alike T) ms ns
  alike-split [] [] h = tt
  alike-split [] (n ∷ ns) h = clash h refl
  alike-split (m ∷ ms) [] h = clash h refl
  alike-split (m ∷ ms) (n ∷ ns) h =
      (alike_member-split m n (and_l (alike_member T m n) (alike T ms ns) h), alike-split ms ns (and_r (alike_member T m n) (alike T ms ns) h))

  pub alike-join : (ms ns : List Member) → AllPairs (Alike T) ms ns → alike T ms ns ≡ true
  alike-join [] [] a = refl
  alike-join [] (n ∷ ns) a = absurd a
  alike-join (m ∷ ms) [] a = absurd a
  alike-join (m ∷ ms) (n ∷ ns) a = and_i (alike_member-join m n a.0) (alike-join ms ns a.1)
