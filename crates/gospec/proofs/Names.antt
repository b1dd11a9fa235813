-- Names of members: the same identity (`same_id`) is the Go specification's sameness of identifiers.
use mathlib.Core.Path.{◌≡◌, refl, sym, ap, ◌∙◌}
use mathlib.Core.Bool.{true, false, cond}
use mathlib.Core.List.{[], ◌∷◌}
use mathlib.Core.Logic.{◌↔◌}
use mathlib.Core.Option.{Option, none}
use lib.Dec.{leb}
use borrow.Author.Tests.{leb-true, le-leb}
use Rattle.objects.specs.Lists.{Bytes}
use Rattle.objects.specs.declared.PackageKey.{PackageKey}
use Rattle.objects.specs.Table.{Table, Member, path_of}
use Rattle.objects.proofs.ListLaws.{cases, clash, and_l, and_r}
use Rattle.objects.proofs.BoolLaws.{and_i, false_of}
use Rattle.text.specs.Bytes.{same_bytes, exported}
use Rattle.text.proofs.ByteLaws.{same_refl, same_true}
use Rattle.rules.specs.Members.{Identity, identity_from, identity_of, same_id, same_member}
use Rattle.rules.proofs.MemberLaws.{same_path-self, same_id-true}
use Rattle.gospec.specs.Go.{Exported, capital, DifferentIds, spelled, packages, SameIds, DifferentNames, SameNames}

pub exported-go : (a : Bytes) → exported a ≡ true → Exported a
unfolding exported
exported-go [] h = clash h refl
exported-go (b ∷ bs) h = capital (leb-true 65 b (and_l (leb 65 b) (leb b 90) h)) (leb-true b 90 (and_r (leb 65 b) (leb b 90) h))

pub go-exported : (a : Bytes) → Exported a → exported a ≡ true
unfolding exported
go-exported a (capital {b = b} h k) = and_i (le-leb 65 b h) (le-leb b 90 k)

module _ (T : Table) where
  -- where the test tells two apart, they are different
  pub ids-go : (a b : Bytes) (p q : Option PackageKey) → same_id (identity_from T p a) (identity_from T q b) ≡ false → DifferentIds T a p b q
  unfolding same_id identity_from
  ids-go a b p q h =
      cases (same_bytes a b)
      (λ e.
      let same : exported b ≡ exported a = ap exported (sym (same_true a b e)) in
      cases (exported a)
      (λ x. clash (and_i e (rw (x, same ∙ x))) h)
      (λ x. packages (λ z. clash (rw z (same_path-self (path_of T q))) (rw (e, x, same ∙ x) at h)) (λ z. clash (go-exported a z) x) (λ z. clash (go-exported b z) (same ∙ x))))
      (λ e. spelled (λ z. clash (rw z (same_refl b)) e))

  -- one identity is of one identifier
  pub same-ids : (a b : Bytes) (p q : Option PackageKey) → identity_from T p a ≡ identity_from T q b → SameIds T a p b q
  unfolding identity_from
  same-ids a b p q e (spelled h) = h (ap (λ (i : Identity). i.name) e)
  same-ids a b p q e (packages h u v) =
      let x : exported a ≡ false = false_of (exported a) (λ z. u (exported-go a z)) in
      let y : exported b ≡ false = false_of (exported b) (λ z. v (exported-go b z)) in
      let f : cond (exported a) none (path_of T p) ≡ cond (exported b) none (path_of T q) = ap (λ (i : Identity). i.path) e in
      h (rw (x, y) at f)

  pub go-ids : (a b : Bytes) (p q : Option PackageKey) → DifferentIds T a p b q → same_id (identity_from T p a) (identity_from T q b) ≡ false
  go-ids a b p q d = false_of (same_id (identity_from T p a) (identity_from T q b)) (λ e. same-ids a b p q (same_id-true (identity_from T p a) (identity_from T q b) e) d)

  ids-same : (a b : Bytes) (p q : Option PackageKey) → SameIds T a p b q → same_id (identity_from T p a) (identity_from T q b) ≡ true
  ids-same a b p q s = cases (same_id (identity_from T p a) (identity_from T q b)) (λ e. e) (λ e. absurd (s (ids-go a b p q e)))

  -- THE SAME IDENTIFIER: the identity of the rules, and the Go specification's sameness
  pub identity-is-go-name : (a b : Bytes) (p q : Option PackageKey) → (identity_from T p a ≡ identity_from T q b) ↔ SameIds T a p b q
  identity-is-go-name a b p q = (same-ids a b p q, λ s. same_id-true (identity_from T p a) (identity_from T q b) (ids-same a b p q s))

  -- a member that is asked for by name
  pub hit-go : (m : Member) (name : Bytes) (pkg : Option PackageKey) → same_id (identity_of T m) (identity_from T pkg name) ≡ true → SameIds T m.name m.pkg name pkg
  unfolding identity_of
  hit-go m name pkg h = same-ids m.name name m.pkg pkg (same_id-true (identity_from T m.pkg m.name) (identity_from T pkg name) h)

  pub go-hit : (m : Member) (name : Bytes) (pkg : Option PackageKey) → SameIds T m.name m.pkg name pkg → same_id (identity_of T m) (identity_from T pkg name) ≡ true
  unfolding identity_of
  go-hit m name pkg s = ids-same m.name name m.pkg pkg s

  -- the same of two members
  pub names-differ : (m n : Member) → same_member T m n ≡ false → DifferentNames T m n
  unfolding identity_of
  names-differ m n h = ids-go m.name n.name m.pkg n.pkg h

  pub same_names : (m n : Member) → (identity_of T m ≡ identity_of T n) ↔ SameNames T m n
  unfolding identity_of
  same_names m n = identity-is-go-name m.name n.name m.pkg n.pkg
