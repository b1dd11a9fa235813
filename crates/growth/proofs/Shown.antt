-- Tests that show a concrete growth: that a struct may get fields (`free-by`), numbers that move up to make room (`shift`), a table's one package (`of_one`).
use mathlib.Core.Path.{◌≡◌, refl, sym, ap, ◌∙◌, subst}
use mathlib.Core.Bool.{Bool, true, cond, not, ◌&&◌, ◌||◌}
use mathlib.Core.List.{List, [], ◌∷◌}
use Prim.Native.Nat.{ℕ, zero, suc, ◌+◌, ◌<◌}
use native.Mathlib.Omega.{arith}
use lib.Dec.{eqb, ltb}
use lib.ListN.{get_or}
use borrow.Author.Tests.{eqb-true, ltb-true, ltb-false}
use Rattle.objects.specs.Lists.{any, In}
use Rattle.objects.proofs.ListLaws.{cases, clash, and_l, and_r, or-true, any-In}
use Rattle.objects.proofs.KeyLaws.{key-eq, same_self}
use Rattle.objects.specs.declared.TypeKey.{TypeKey}
use Rattle.objects.specs.declared.ObjKey.{ObjKey}
use Rattle.objects.specs.declared.PackageKey.{PackageKey}
use Rattle.objects.specs.Table.{Table, type_key, obj_key, package_key, same_type, Member, Kind, Basic, is_named, refs, members_of, kind_at}
use Rattle.growth.specs.Grown.{Numbers, Free}

-- ---- a test for `Free`: the T line of one named type c refers to t, and no other line

module _ (n : Numbers) (A : Table) (t : TypeKey) (c : ℕ) where
  abbrev bars : ℕ → Kind → Bool
  bars i k = (eqb i c || not (any (same_type t) (refs k))) && not (any (λ m. same_type t m.type) (members_of k))

  abbrev bars_from : ℕ → List Kind → Bool
  bars_from i [] = true
  bars_from i (k ∷ ks) = bars i k && bars_from (suc i) ks

  bars-at : (i : ℕ) (ks : List Kind) (j : ℕ) → bars_from i ks ≡ true → bars (i + j) (get_or ks j (Basic 0)) ≡ true
  bars-at i [] j h = rw (or-true (eqb (i + j) c))
  bars-at i (k ∷ ks) zero h = let e : i + 0 ≡ i = omega arith in rw e (and_l (bars i k) (bars_from (suc i) ks) h)
  bars-at i (k ∷ ks) (suc j) h = let e : i + suc j ≡ suc i + j = omega arith in rw e (bars-at (suc i) ks j (and_r (bars i k) (bars_from (suc i) ks) h))

  bars-all : (j : ℕ) → bars_from 0 A.types ≡ true → bars j (kind_at A (type_key j)) ≡ true
  unfolding kind_at
  bars-all j h = let e : 0 + j ≡ j = omega arith in subst (λ i. bars i (get_or A.types j (Basic 0)) ≡ true) e (bars-at 0 A.types j h)

  line-is : (i : ℕ) (k : Kind) → bars i k ≡ true → In t (refs k) → i ≡ c
  line-is i k h r = cases (eqb i c) (λ e. eqb-true i c e) (λ e. clash (rw (e, any-In (same_type t) (refs k) t r (same_self t)) at h) refl)

  no-member : (i : ℕ) (k : Kind) → bars i k ≡ true → (m : Member) → In m (members_of k) → m.type ≡ t → ⊥
  no-member i k h m r e =
      let none = and_r (eqb i c || not (any (same_type t) (refs k))) (not (any (λ (x : Member). same_type t x.type) (members_of k))) h in
      clash none (ap not (any-In (λ (x : Member). same_type t x.type) (members_of k) m r (ap (same_type t) e ∙ same_self t)))

  pub free-by : is_named (kind_at A (type_key c)) ≡ true → bars_from 0 A.types ≡ true → Free n A t
  free-by named h = record {
    unreferred = λ x i. subst (λ (u : TypeKey). is_named (kind_at A u) ≡ true) (sym (at x i)) named;
    one_name = λ x y i j. at x i ∙ sym (at y j);
    no_member = λ x m i e. no-member x.0 (kind_at A x) (bars-all x.0 h) m i e;
  }
    where
      at : (x : TypeKey) → In t (refs (kind_at A x)) → x ≡ type_key c
      at x i = key-eq x (type_key c) (line-is x.0 (kind_at A x) (bars-all x.0 h) i)

-- ---- numbers from `from` on move up by `by`

abbrev pub shift : (from by : ℕ) → ℕ → ℕ
shift from by i = cond (ltb i from) i (i + by)

module _ (from by : ℕ) where
  pub shift_in : (size i : ℕ) → i < size → shift from by i < size + by
  shift_in size i h = cases (ltb i from) (λ e. rw e (omega arith)) (λ e. rw e (omega arith))

  pub shift-own : (i j : ℕ) → shift from by i ≡ shift from by j → i ≡ j
  shift-own i j e =
      cases (ltb i from)
      (λ p. cases (ltb j from)
      (λ q. rw (p, q) at e)
      (λ q. let a = ltb-true i from p in let b = ltb-false j from q in let z : i ≡ j + by = rw (p, q) at e in omega arith))
      (λ p. cases (ltb j from)
      (λ q. let a = ltb-false i from p in let b = ltb-true j from q in let z : i + by ≡ j = rw (p, q) at e in omega arith)
      (λ q. let z : i + by ≡ j + by = rw (p, q) at e in omega arith))

  pub type-own : (t u : TypeKey) → type_key (shift from by t.0) ≡ type_key (shift from by u.0) → t ≡ u
  type-own t u e = key-eq t u (shift-own t.0 u.0 (ap (λ (x : TypeKey). x.0) e))

  pub member-own : (m o : ObjKey) → obj_key (shift from by m.0) ≡ obj_key (shift from by o.0) → m ≡ o
  member-own m o e = let same : m.0 ≡ o.0 = shift-own m.0 o.0 (ap (λ (x : ObjKey). x.0) e) in ap obj_key same

-- ---- packages

-- what holds of package 0 holds of each package of a table that has one
pub of_one : (P : PackageKey → Type 0) (p : PackageKey) → p.0 < 1 → P (package_key 0) → P p
of_one P p h x = let e : p.0 ≡ 0 = omega arith in subst P (sym (ap package_key e)) x
