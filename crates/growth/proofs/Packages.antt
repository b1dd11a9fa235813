-- Old packages in a library that grew (specs/Grown.antt): each is there under its path, in the old order, and no number but one has that path.
use mathlib.Core.Path.{◌≡◌, sym, ap, subst, ◌∙◌}
use mathlib.Core.Bool.{false}
use mathlib.Core.List.{List, [], ◌∷◌}
use mathlib.Core.Logic.{inl, inr}
use Prim.Native.Nat.{◌≤◌, ◌<◌}
use native.Mathlib.Omega.{arith}
use lib.Dec.{ltb}
use lib.ListN.{length, get_or}
use borrow.Author.Tests.{ltb-true, ltb-false}
use Rattle.objects.specs.declared.PackageKey.{PackageKey}
use Rattle.objects.specs.Lists.{Bytes, In}
use Rattle.objects.specs.Table.{Table, package_key}
use Rattle.objects.proofs.ListLaws.{cases, clash}
use Rattle.text.specs.Bytes.{same_bytes}
use Rattle.text.proofs.ByteLaws.{same_refl, same_true, below_irrefl, below-trans}
use Rattle.rules.specs.Sound.{Below, Ordered}
use Rattle.rules.proofs.PathLaws.{paths-ascend, path-once}
use Rattle.growth.specs.Grown.{Numbers, Grown, place_among, path_at}

place_in : (paths : List Bytes) (path : Bytes) → In path paths → (place_among paths path < length paths) × (get_or paths (place_among paths path) [] ≡ path)
place_in [] path i = elim i [ ]
place_in (p ∷ ps) path i =
    cases (same_bytes p path)
    (λ e. rw e (omega arith, same_true p path e))
    (λ e. let r = place_in ps path (later e i) in rw e (let h = r.0 in omega arith, r.1))
  where
    later : same_bytes p path ≡ false → In path (p ∷ ps) → In path ps
    later e (inl q) = clash (rw q (same_refl p)) e
    later e (inr j) = j

module _ (n : Numbers) (A B : Table) (g : Grown n A B) (p : PackageKey) (h : p.0 < length A.packages) where
  placed : ((n.pk p).0 < length B.packages) × (path_at B (n.pk p) ≡ path_at A p)
  placed = rw (g.package_known p h) (place_in B.packages (path_at A p) (g.paths p h))

  -- "Each old package .. has its own number in the new table"
  pub package-in : (n.pk p).0 < length B.packages
  package-in = placed.0

  -- and is known by its path
  pub package-path : path_at B (n.pk p) ≡ path_at A p
  package-path = placed.1

module _ (n : Numbers) (A B : Table) (new_ordered : Ordered B) (g : Grown n A B) where
  -- no other number of the new table has the path
  pub package-only : (p : PackageKey) → p.0 < length A.packages → (r : PackageKey) → r.0 < length B.packages → path_at B r ≡ path_at A p → r ≡ n.pk p
  package-only p h r k e =
      ap package_key (path-once B.packages new_ordered r.0 (n.pk p).0 k (package-in n A B g p h) (e ∙ sym (package-path n A B g p h)))

  module _ (old_ordered : Ordered A) where
    -- the new packages are put between the old ones, whose order stays
    pub old-order : (p q : PackageKey) → p.0 < q.0 → q.0 < length A.packages → (n.pk p).0 < (n.pk q).0
    old-order p q l h =
        cases (ltb (n.pk p).0 (n.pk q).0)
        (λ e. ltb-true (n.pk p).0 (n.pk q).0 e)
        (λ e. absurd (not-below (ltb-false (n.pk p).0 (n.pk q).0 e)))
      where
        below : Below (path_at A p) (path_at A q)
        below = paths-ascend A.packages old_ordered p.0 q.0 l h

        below_new : Below (path_at B (n.pk p)) (path_at B (n.pk q))
        below_new = rw (package-path n A B g p (omega arith), package-path n A B g q h) below

        not-below : (n.pk q).0 ≤ (n.pk p).0 → ⊥
        not-below k =
            let i = (n.pk p).0 in
            let j = (n.pk q).0 in
            let path = path_at B (n.pk p) in
            cases (ltb j i)
            (λ e. clash (below-trans path (path_at B (n.pk q)) path below_new (paths-ascend B.packages new_ordered j i (ltb-true j i e) (package-in n A B g p (omega arith)))) (below_irrefl path))
            (λ e.
            let m = ltb-false j i e in
            let same : j ≡ i = omega arith in
            clash (subst (λ k. Below path (get_or B.packages k [])) same below_new) (below_irrefl path))
