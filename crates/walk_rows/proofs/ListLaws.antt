-- Lists of rows: when a type has no row, one or two, and what is then entered.
use mathlib.Core.Path.{◌≡◌, refl, ap}
use mathlib.Core.Bool.{true, false, ◌&&◌}
use mathlib.Core.List.{List, [], ◌∷◌, ◌++◌, map}
use mathlib.Core.Logic.{◌≢◌, inl, inr}
use Prim.Native.Nat.{ℕ, zero, suc, ◌≤◌, ◌<◌}
use native.Mathlib.Omega.{arith}
use lib.Dec.{ltb}
use lib.ListN.{length}
use borrow.Author.Tests.{lt-ltb, le-ltb}
use Rattle.objects.specs.Lists.{any, In}
use Rattle.objects.specs.declared.TypeKey.{TypeKey}
use Rattle.objects.specs.Table.{same_type}
use Rattle.objects.proofs.ListLaws.{cases, clash, either, or-true, any-In, any_none, In-append}
use Rattle.objects.proofs.PartLaws.{get_or-In}
use Rattle.objects.proofs.KeyLaws.{same_self}
use Rattle.walks.specs.Kept.{count}
use Rattle.walks.specs.Rows.{Row, row, full, entered, enter_all}

-- how many rows of u there are
abbrev pub times : TypeKey → List Row → ℕ
times u R = count u (map (λ r. r.type) R)

module _ (u : TypeKey) where
  pub times_more : (R : List Row) (x : Row) → x.type ≡ u → times u (R ++ (x ∷ [])) ≡ suc (times u R)
  times_more [] x e = rw (e, same_self u)
  times_more (r ∷ R) x e = cases (same_type r.type u) (λ s. rw s (ap suc (times_more R x e))) (λ s. rw s (times_more R x e))

  pub times-same : (R : List Row) (x : Row) → same_type x.type u ≡ false → times u (R ++ (x ∷ [])) ≡ times u R
  times-same [] x e = rw e
  times-same (r ∷ R) x e = cases (same_type r.type u) (λ s. rw s (ap suc (times-same R x e))) (λ s. rw s (times-same R x e))

  pub times_none : (R : List Row) → times u R ≡ 0 → (r : Row) → In r R → same_type r.type u ≡ false
  times_none [] h r i = absurd i
  times_none (x ∷ R) h r i =
      cases (same_type x.type u)
      (λ s. let z : suc (times u R) ≡ 0 = rw s at h in absurd (omega arith))
      (λ s. let z : times u R ≡ 0 = rw s at h in either i (λ q. rw q s) (λ j. times_none R z r j))

  -- of one row alone it is asked whether its level is earlier
  earlier-none : (d : ℕ) (R : List Row) → times u R ≡ 0 → any (λ r. same_type r.type u && ltb r.level d) R ≡ false
  earlier-none d R h = any_none _ R (λ r i. rw (times_none R h r i))

  earlier-one : (d : ℕ) (R : List Row) (j : ℕ) → times u R ≡ 1 → j < length R → (row R j).type ≡ u → d ≤ (row R j).level → any (λ r. same_type r.type u && ltb r.level d) R ≡ false
  earlier-one d [] j h l e o = absurd (omega arith)
  earlier-one d (x ∷ R) zero h l e o =
      let s : same_type x.type u ≡ true = rw e (same_self u) in
      let z : suc (times u R) ≡ 1 = rw s at h in
      let y : times u R ≡ 0 = omega arith in
      rw (s, le-ltb x.level d o) (earlier-none d R y)
  earlier-one d (x ∷ R) (suc j) h l e o =
      cases (same_type x.type u)
      (λ s. let z : suc (times u R) ≡ 1 = rw s at h in
      let y : times u R ≡ 0 = omega arith in
      let n = times_none R y (row R j) (get_or-In R j _ (omega arith)) in
      clash (rw e (same_self u)) n)
      (λ s. let z : times u R ≡ 1 = rw s at h in rw s (earlier-one d R j z (omega arith) e o))

  -- the one row of a type has none before it
  pub one-first : (R : List Row) (i j : ℕ) → times u R ≡ 1 → j < i → i < length R → (row R i).type ≡ u → (row R j).type ≢ u
  one-first [] i j h b l e q = absurd (omega arith)
  one-first (x ∷ R) zero j h b l e q = absurd (omega arith)
  one-first (x ∷ R) (suc i) zero h b l e q =
      let z : suc (times u R) ≡ 1 = rw (q, same_self u) at h in
      let y : times u R ≡ 0 = omega arith in
      clash (rw e (same_self u)) (times_none R y (row R i) (get_or-In R i _ (omega arith)))
  one-first (x ∷ R) (suc i) (suc j) h b l e q =
      cases (same_type x.type u)
      (λ s. let z : suc (times u R) ≡ 1 = rw s at h in
      let y : times u R ≡ 0 = omega arith in
      clash (rw e (same_self u)) (times_none R y (row R i) (get_or-In R i _ (omega arith))))
      (λ s. let z : times u R ≡ 1 = rw s at h in one-first R i j z (omega arith) (omega arith) e q)

module _ (R : List Row) (x : Row) where
  pub full-none : times x.type R ≡ 0 → full R x ≡ false
  full-none h = rw (earlier-none x.type x.level R h, h)

  pub full-one : (j : ℕ) → times x.type R ≡ 1 → j < length R → (row R j).type ≡ x.type → x.level ≤ (row R j).level → full R x ≡ false
  full-one j h l e o = rw (earlier-one x.type x.level R j h l e o, h)

  pub full-two : times x.type R ≡ 2 → full R x ≡ true
  full-two h = rw h (or-true (any (λ r. same_type r.type x.type && ltb r.level x.level) R))

  pub full-earlier : (j : ℕ) → j < length R → (row R j).type ≡ x.type → (row R j).level < x.level → full R x ≡ true
  full-earlier j l e o =
      let some : any (λ r. same_type r.type x.type && ltb r.level x.level) R ≡ true = any-In _ R (row R j) (get_or-In R j _ l) (rw (e, same_self x.type, lt-ltb (row R j).level x.level o)) in
      rw some

  pub entered-not : full R x ≡ true → R ≡ entered R x
  entered-not h = rw h

  pub entered-last : full R x ≡ false → R ++ (x ∷ []) ≡ entered R x
  entered-last h = rw h

-- what holds of all rows and of those that are entered holds of all after
pub enter-all : (P : Row → Type 0) (X R : List Row) → ((r : Row) → In r R → P r) → ((r : Row) → In r X → P r) → (r : Row) → In r (enter_all R X) → P r
enter-all P [] R h k r i = h r i
enter-all P (x ∷ X) R h k r i = enter-all P X (entered R x) (λ y j. one y j) (λ y j. k y (inr j)) r i
  where
    one : (y : Row) → In y (entered R x) → P y
    one y j = cases (full R x) (λ e. h y (rw e at j)) (λ e. either (In-append R (x ∷ []) y (rw e at j)) (h y) (λ z. either z (λ q. rw q (k x (inl refl))) (λ w. absurd w)))
