-- Ranks and cycles: a type with a rank does not contain itself by value; and where each type without rank contains one without rank, some type contains
-- itself, for else a walk among them would never repeat.
use mathlib.Core.Path.{◌≡◌, refl, sym, ap, subst}
use mathlib.Core.Bool.{false}
use mathlib.Core.List.{List, [], ◌∷◌}
use mathlib.Core.Logic.{inl, inr}
use Prim.Native.Nat.{ℕ, zero, suc, ◌<◌, ◌≤◌}
use native.Mathlib.Omega.{arith}
use lib.Dec.{ltb}
use lib.ListN.{length}
use borrow.Author.Tests.{ltb-true, ltb-false}
use Rattle.objects.specs.declared.TypeKey.{TypeKey}
use Rattle.objects.specs.Lists.{In}
use Rattle.objects.specs.Table.{type_key, same_type}
use Rattle.objects.specs.Rows.{Words, type_count}
use Rattle.objects.proofs.ListLaws.{cases, clash}
use Rattle.objects.proofs.KeyLaws.{key-eq, same_key, same_self}
use Rattle.objects.proofs.Pigeons.{Distinct, pigeons}
use Rattle.rules.specs.Chains.{Chain, here, there}
use Rattle.rules.specs.Library.{rank_read}
use Rattle.cycles.specs.Contents.{inside, Back}
use Rattle.cycles.specs.Ranking.{Ranks, Stuck}
use Rattle.cycles.specs.Search.{Decides}

module _ (rows : Words) (r : Ranks rows) where
  -- ---- a rank falls along a chain

  lower : (t u : TypeKey) → u.0 < type_count rows → 0 < rank_read rows u → Chain (inside rows) (same_type t) u → rank_read rows t ≤ rank_read rows u
  lower t u h p (here e) = let k = ap (rank_read rows) (same_key t u e) in omega (arith, k)
  lower t u h p (there {y = y} i c) =
      let f = r.falls u y h p i in
      let f1 = f.1 in
      let l = lower t y (r.within u y i) f.0 c in
      omega (arith, f1, l)

  pub ranked-clear : (t : TypeKey) → t.0 < type_count rows → 0 < rank_read rows t → Back rows t → ⊥
  ranked-clear t h p b =
      let f = r.falls t b.0 h p b.1 in
      let f1 = f.1 in
      let l = lower t b.0 (r.within t b.0 b.1) f.0 b.2 in
      omega (arith, f1, l)

  -- the code answers so, without a search
  pub ranked-decides : (t : TypeKey) → t.0 < type_count rows → {k : ℕ} → k ≡ rank_read rows t → (k ≡ 0 → ⊥) → Decides (Back rows t) false
  ranked-decides t h q ne = record { yes = λ f. clash f refl; no = λ _. ranked-clear t h (omega (arith, q, ne)) }

  -- ---- a walk among types without rank

  -- a chain goes on by one step
  chain-on : (x e z : TypeKey) → In e (inside rows x) → Chain (inside rows) (same_type x) z → Chain (inside rows) (same_type e) z
  chain-on x e z i (here p) = there (subst (λ u. In e (inside rows u)) (same_key x z p) i) (here (same_self e))
  chain-on x e z i (there {y = y} j c) = there j (chain-on x e y i c)

  -- k steps, with the types behind: each leads to where the walk stands
  record Walk (k : ℕ) : Type 0 where
    at : TypeKey
    past : List ℕ
    none : rank_read rows at ≡ 0
    distinct : Distinct (at.0 ∷ past)
    long : length past ≡ k
    below : (x : ℕ) → In x (at.0 ∷ past) → x < type_count rows
    led : (y : ℕ) → In y past → (e : TypeKey) × In e (inside rows (type_key y)) × Chain (inside rows) (same_type at) e

  module _ (stuck : Stuck rows (type_count rows)) (clear : (t : TypeKey) → t.0 < type_count rows → Back rows t → ⊥) where
    walk-on : (k : ℕ) → Walk k → Walk (suc k)
    walk-on k w = record {
      at = e;
      past = w.at.0 ∷ w.past;
      none = s.2;
      distinct = (fresh, w.distinct);
      long = ap suc w.long;
      below = low;
      led = leads;
    }
      where
        s : (e : TypeKey) × In e (inside rows w.at) × (rank_read rows e ≡ 0)
        s = stuck w.at (w.below w.at.0 (inl refl)) w.none

        e : TypeKey
        e = s.0

        leads : (y : ℕ) → In y (w.at.0 ∷ w.past) → (z : TypeKey) × In z (inside rows (type_key y)) × Chain (inside rows) (same_type e) z
        leads y (inl q) = (e, subst (λ u. In e (inside rows u)) (sym (key-eq (type_key y) w.at q)) s.1, here (same_self e))
        leads y (inr i) = let l = w.led y i in (l.0, l.1, chain-on w.at e l.0 s.1 l.2)

        fresh : In e.0 (w.at.0 ∷ w.past) → ⊥
        fresh i = clear e (r.within w.at e s.1) (leads e.0 i)

        low : (x : ℕ) → In x (e.0 ∷ w.at.0 ∷ w.past) → x < type_count rows
        low x (inl q) = let h = r.within w.at e s.1 in omega (arith, h, q)
        low x (inr i) = w.below x i

    walk : (t : TypeKey) → t.0 < type_count rows → rank_read rows t ≡ 0 → (k : ℕ) → Walk k
    walk t h z zero = record {
      at = t;
      past = [];
      none = z;
      distinct = ((λ i. i), tt);
      long = refl;
      below = first;
      led = λ y i. absurd i;
    }
      where
        first : (x : ℕ) → In x (t.0 ∷ []) → x < type_count rows
        first x (inl q) = omega (arith, q, h)
        first x (inr i) = absurd i
    walk t h z (suc k) = walk-on k (walk t h z k)

    -- WHERE NO TYPE CONTAINS ITSELF BY VALUE EACH HAS A RANK
    pub all-ranked : (t : TypeKey) → t.0 < type_count rows → 0 < rank_read rows t
    all-ranked t h =
        cases (ltb 0 (rank_read rows t))
        (λ f. ltb-true 0 (rank_read rows t) f)
        (λ f.
        let g = ltb-false 0 (rank_read rows t) f in
        let w = walk t h (omega arith) (type_count rows) in
        let p = pigeons (type_count rows) (w.at.0 ∷ w.past) w.distinct w.below in
        let l = w.long in
        absurd (omega (arith, p, l)))
