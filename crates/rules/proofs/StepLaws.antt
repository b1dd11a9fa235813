-- Laws of identity step by step (specs/StepIdentity.antt): one step unfolded (`Agree`), an equivalence at every number of steps, and what it has to do
-- with chains of corresponding parts. All on every key: what the table lacks counts as `T basic 0`.
use mathlib.Core.Path.{◌≡◌, refl, sym, ap, ◌∙◌}
use mathlib.Core.Bool.{Bool, true, false, cond, ◌&&◌, ◌||◌}
use mathlib.Core.List.{List, [], ◌∷◌}
use mathlib.Core.Logic.{◌⊎◌, inl, inr, ◌↔◌}
use Prim.Native.Nat.{ℕ, zero, suc, ◌+◌}
use native.Mathlib.Omega.{arith}
use lib.Dec.{eqb}
use lib.ListN.{length, length-map}
use borrow.Author.Tests.{eqb-true, eq-eqb, not-false}
use Rattle.objects.specs.Lists.{In}
use Rattle.objects.specs.declared.TypeKey.{TypeKey}
use Rattle.objects.specs.Table.{Table, Kind, Basic, Array, Slice, Pointer, Map, Chan, Tuple, Func, Struct, Iface, Named, kind_number, members_of, kind_at}
use Rattle.objects.proofs.ListLaws.{cases, clash, either, and_l, and_r}
use Rattle.objects.proofs.BoolLaws.{and_i, and_no, false_of}
use Rattle.objects.proofs.PairLaws.{AllPairs, pairs-map, pairs-self, pairs-turn, pairs-trans}
use Rattle.rules.specs.Chains.{Chain, here, there}
use Rattle.rules.specs.Identity.{own_number, parts, Pair, corresponding, alike, mismatched, mismatch, pair_parts}
use Rattle.rules.specs.StepIdentity.{pairwise, step_kinds, same_step, same_in}
use Rattle.rules.proofs.MemberLaws.{Alike, alike-split, alike-join}

-- ---- one step

module _ (R : TypeKey → TypeKey → Bool) where
  abbrev pub Holds : TypeKey → TypeKey → Type 0
  Holds x y = R x y ≡ true

  pub pairwise-split : (xs ys : List TypeKey) → pairwise R xs ys ≡ true → AllPairs Holds xs ys
  pairwise-split [] [] h = tt
  pairwise-split [] (y ∷ ys) h = clash h refl
  pairwise-split (x ∷ xs) [] h = clash h refl
  pairwise-split (x ∷ xs) (y ∷ ys) h = (and_l (R x y) (pairwise R xs ys) h, pairwise-split xs ys (and_r (R x y) (pairwise R xs ys) h))

  pub pairwise-join : (xs ys : List TypeKey) → AllPairs Holds xs ys → pairwise R xs ys ≡ true
  pairwise-join [] [] a = refl
  pairwise-join [] (y ∷ ys) a = absurd a
  pairwise-join (x ∷ xs) [] a = absurd a
  pairwise-join (x ∷ xs) (y ∷ ys) a = and_i a.0 (pairwise-join xs ys a.1)

-- x of kind k and y of kind l have the same kind number and own number, members alike, and corresponding parts that R relates
pub record AgreeKinds (T : Table) (R : TypeKey → TypeKey → Bool) (x : TypeKey) (k : Kind) (y : TypeKey) (l : Kind) : Type 0 where
  pub kinds : kind_number k ≡ kind_number l
  pub owns : own_number x k ≡ own_number y l
  pub members : AllPairs (Alike T) (members_of k) (members_of l)
  pub related : AllPairs (Holds R) (parts k) (parts l)

abbrev pub Agree : Table → (TypeKey → TypeKey → Bool) → TypeKey → TypeKey → Type 0
Agree T R x y = AgreeKinds T R x (kind_at T x) y (kind_at T y)

module _ (T : Table) where
  -- what a pair that is no mismatch has in common
  abbrev pub Matched : TypeKey → Kind → TypeKey → Kind → Type 0
  Matched x k y l = (kind_number k ≡ kind_number l) × (own_number x k ≡ own_number y l) × AllPairs (Alike T) (members_of k) (members_of l)

  pub matched : (x y : TypeKey) (k l : Kind) → eqb (kind_number k) (kind_number l) && eqb (own_number x k) (own_number y l) && alike T (members_of k) (members_of l) ≡ true → Matched x k y l
  matched x y k l h =
      let kinds = eqb (kind_number k) (kind_number l) in
      let owns = eqb (own_number x k) (own_number y l) in
      let members = alike T (members_of k) (members_of l) in
      let both = and_l (kinds && owns) members h in
      (eqb-true (kind_number k) (kind_number l) (and_l kinds owns both), eqb-true (own_number x k) (own_number y l) (and_r kinds owns both), alike-split T (members_of k) (members_of l) (and_r (kinds && owns) members h))

  pub kinds-split : (R : TypeKey → TypeKey → Bool) (x y : TypeKey) (k l : Kind) → step_kinds T R x k y l ≡ true → AgreeKinds T R x k y l
  kinds-split R x y k l h =
      let same = eqb (kind_number k) (kind_number l) && eqb (own_number x k) (own_number y l) && alike T (members_of k) (members_of l) in
      let related = pairwise R (parts k) (parts l) in
      let m = matched x y k l (and_l same related h) in
      record { kinds = m.0; owns = m.1; members = m.2; related = pairwise-split R (parts k) (parts l) (and_r same related h) }

  pub kinds-join : (R : TypeKey → TypeKey → Bool) (x y : TypeKey) (k l : Kind) → AgreeKinds T R x k y l → step_kinds T R x k y l ≡ true
  kinds-join R x y k l a =
      and_i (and_i (and_i (eq-eqb (kind_number k) (kind_number l) a.kinds) (eq-eqb (own_number x k) (own_number y l) a.owns)) (alike-join T (members_of k) (members_of l) a.members)) (pairwise-join R (parts k) (parts l) a.related)

  pub step-agree : (R : TypeKey → TypeKey → Bool) (x y : TypeKey) → (same_step T R x y ≡ true) ↔ Agree T R x y
  unfolding same_step
  step-agree R x y = (kinds-split R x y (kind_at T x) (kind_at T y), kinds-join R x y (kind_at T x) (kind_at T y))

  -- related by more: the same step
  pub agree-map : (R S : TypeKey → TypeKey → Bool) (x y : TypeKey) → ((a b : TypeKey) → In a (parts (kind_at T x)) → In b (parts (kind_at T y)) → R a b ≡ true → S a b ≡ true) → Agree T R x y → Agree T S x y
  agree-map R S x y h a = record {
    kinds = a.kinds;
    owns = a.owns;
    members = a.members;
    related = pairs-map (Holds R) (Holds S) (parts (kind_at T x)) (parts (kind_at T y)) h a.related;
  }

  -- ---- an equivalence at every number of steps

  pub same-zero : (x y : TypeKey) → same_in T zero x y ≡ true
  unfolding same_in
  same-zero x y = refl

  pub same-split : (n : ℕ) (x y : TypeKey) → same_in T (suc n) x y ≡ true → Agree T (same_in T n) x y
  unfolding same_in
  same-split n x y h = (step-agree (same_in T n) x y).0 h

  pub same-join : (n : ℕ) (x y : TypeKey) → Agree T (same_in T n) x y → same_in T (suc n) x y ≡ true
  unfolding same_in
  same-join n x y a = (step-agree (same_in T n) x y).1 a

  pub same_self : (n : ℕ) (x : TypeKey) → same_in T n x x ≡ true
  same_self zero x = same-zero x x
  same_self (suc n) x = same-join n x x (record {
    kinds = refl;
    owns = refl;
    members = pairs-self (Alike T) (members_of (kind_at T x)) (λ m i. (refl, refl, refl));
    related = pairs-self (Holds (same_in T n)) (parts (kind_at T x)) (λ p i. same_self n p);
  })

  pub same_turn : (n : ℕ) (x y : TypeKey) → same_in T n x y ≡ true → same_in T n y x ≡ true
  same_turn zero x y h = same-zero y x
  same_turn (suc n) x y h =
      let a = same-split n x y h in
      same-join n y x (record {
        kinds = sym a.kinds;
        owns = sym a.owns;
        members = pairs-turn (Alike T) (Alike T) (members_of (kind_at T x)) (members_of (kind_at T y)) (λ m o f. (sym f.0, sym f.1, sym f.2)) a.members;
        related = pairs-turn (Holds (same_in T n)) (Holds (same_in T n)) (parts (kind_at T x)) (parts (kind_at T y)) (λ p q f. same_turn n p q f) a.related;
      })

  pub same-trans : (n : ℕ) (x y z : TypeKey) → same_in T n x y ≡ true → same_in T n y z ≡ true → same_in T n x z ≡ true
  same-trans zero x y z h k = same-zero x z
  same-trans (suc n) x y z h k =
      let a = same-split n x y h in
      let b = same-split n y z k in
      same-join n x z (record {
        kinds = a.kinds ∙ b.kinds;
        owns = a.owns ∙ b.owns;
        members = pairs-trans (Alike T) (Alike T) (Alike T) (members_of (kind_at T x)) (members_of (kind_at T y)) (members_of (kind_at T z)) (λ l m o f g. (f.0 ∙ g.0, f.1 ∙ g.1, f.2 ∙ g.2)) a.members b.members;
        related = pairs-trans (Holds (same_in T n)) (Holds (same_in T n)) (Holds (same_in T n)) (parts (kind_at T x)) (parts (kind_at T y)) (parts (kind_at T z)) (λ p q r f g. same-trans n p q r f g) a.related b.related;
      })

  -- fewer steps see no more
  pub same-less : (n : ℕ) (x y : TypeKey) → same_in T (suc n) x y ≡ true → same_in T n x y ≡ true
  same-less zero x y h = same-zero x y
  same-less (suc n) x y h = same-join n x y (agree-map (same_in T (suc n)) (same_in T n) x y (λ a b i j. same-less n a b) (same-split (suc n) x y h))

  pub same_drop : (k n : ℕ) (x y : TypeKey) → same_in T (k + n) x y ≡ true → same_in T n x y ≡ true
  same_drop zero n x y h = let e : zero + n ≡ n = omega arith in rw e at h
  same_drop (suc k) n x y h = let e : suc k + n ≡ suc (k + n) = omega arith in same_drop k n x y (same-less (k + n) x y (rw e at h))

-- ---- corresponding parts

pub corr-from : (xs ys : List TypeKey) (p : Pair) → In p (corresponding xs ys) → In p.left xs × In p.right ys
corr-from [] ys p x' = elim x' [ ]
corr-from (x ∷ xs) [] p x4 = elim x4 [ ]
corr-from (x ∷ xs) (y ∷ ys) p (inl e) = (inl (ap (λ (q : Pair). q.left) e), inl (ap (λ (q : Pair). q.right) e))
corr-from (x ∷ xs) (y ∷ ys) p (inr i) = let r = corr-from xs ys p i in (inr r.0, inr r.1)

corr-holds : (P : TypeKey → TypeKey → Type 0) (xs ys : List TypeKey) (p : Pair) → AllPairs P xs ys → In p (corresponding xs ys) → P p.left p.right
corr-holds P [] ys p a x'' = elim x'' [ ]
corr-holds P (x ∷ xs) [] p a _ = elim a [ ]
corr-holds P (x ∷ xs) (y ∷ ys) p a (inl e) = rw e a.0
corr-holds P (x ∷ xs) (y ∷ ys) p a (inr i) = corr-holds P xs ys p a.1 i

-- equally many of which not all are related: two that are not
corr-fails : (R : TypeKey → TypeKey → Bool) (xs ys : List TypeKey) → length xs ≡ length ys → pairwise R xs ys ≡ false → (p : Pair) × In p (corresponding xs ys) × (R p.left p.right ≡ false)
corr-fails R [] [] e h = clash refl h
corr-fails R [] (y ∷ ys) e h = absurd (omega arith)
corr-fails R (x ∷ xs) [] e h = absurd (omega arith)
corr-fails R (x ∷ xs) (y ∷ ys) e h =
    either (and_no (R x y) (pairwise R xs ys) h)
    (λ f. (record { left = x; right = y }, inl refl, f))
    (λ f. let r = corr-fails R xs ys (omega arith) f in (r.0, inr r.1, r.2))

-- how many parts a kind of this number and own number has
part_count : ℕ → ℕ → ℕ
part_count kind own = cond (eqb kind 0 || eqb kind 10) 0 (cond (eqb kind 4 || eqb kind 7) 2 (cond (eqb kind 6 || eqb kind 8 || eqb kind 9) own 1))

parts-count : (x : TypeKey) (k : Kind) → length (parts k) ≡ part_count (kind_number k) (own_number x k)
unfolding parts own_number part_count
parts-count x (Basic k) = refl
parts-count x (Array n e) = refl
parts-count x (Slice e) = refl
parts-count x (Pointer e) = refl
parts-count x (Map k e) = refl
parts-count x (Chan d e) = refl
parts-count x (Tuple es) = rw (mathlib.Core.List.append-nil es)
parts-count x (Func v p r) = refl
parts-count x (Struct ms) = length-map ms (λ m. m.type)
parts-count x (Iface ms) = length-map ms (λ m. m.type)
parts-count x (Named u ms) = refl

pub parts-long : (x y : TypeKey) (k l : Kind) → kind_number k ≡ kind_number l → own_number x k ≡ own_number y l → length (parts k) ≡ length (parts l)
parts-long x y k l p q = parts-count x k ∙ rw (p, q) (sym (parts-count y l))

-- ---- chains

abbrev pub Differ : Table → TypeKey → TypeKey → Type 0
Differ T x y = Chain (pair_parts T) (mismatch T) (record { left = x; right = y })

module _ (T : Table) where
  -- what is no mismatch has that in common, and back
  pub match-common : (x y : TypeKey) → mismatch T (record { left = x; right = y }) ≡ false → Matched T x (kind_at T x) y (kind_at T y)
  unfolding mismatch
  match-common x y h = matched T x y (kind_at T x) (kind_at T y) (not-false _ h)

  pub common-match : (x y : TypeKey) → Matched T x (kind_at T x) y (kind_at T y) → mismatch T (record { left = x; right = y }) ≡ false
  unfolding mismatch
  common-match x y m =
      rw (eq-eqb (kind_number (kind_at T x)) (kind_number (kind_at T y)) m.0, eq-eqb (own_number x (kind_at T x)) (own_number y (kind_at T y)) m.1, alike-join T (members_of (kind_at T x)) (members_of (kind_at T y)) m.2)

  -- a mismatch is what no step survives
  pub agree-match : (R : TypeKey → TypeKey → Bool) (x y : TypeKey) → Agree T R x y → mismatch T (record { left = x; right = y }) ≡ false
  agree-match R x y a = common-match x y (a.kinds, a.owns, a.members)

  -- a chain that reaches a mismatch is seen at some number of steps
  pub chain-false : (p : Pair) → Chain (pair_parts T) (mismatch T) p → (n : ℕ) × (same_in T n p.left p.right ≡ false)
  unfolding pair_parts
  chain-false p (here e) = (1, false_of (same_in T 1 p.left p.right) (λ h. clash e (agree-match (same_in T 0) p.left p.right (same-split T 0 p.left p.right h))))
  chain-false p (there {y = q} i c) =
      let r = chain-false q c in (
        suc r.0,
        false_of (same_in T (suc r.0) p.left p.right) (λ h.
            clash (corr-holds (Holds (same_in T r.0)) (parts (kind_at T p.left)) (parts (kind_at T p.right)) q (same-split T r.0 p.left p.right h).related i) r.1),
      )

  differ-kinds : (n : ℕ) (x y : TypeKey) (k l : Kind) → ((a b : TypeKey) → same_in T n a b ≡ false → Differ T a b) → step_kinds T (same_in T n) x k y l ≡ false
      → (mismatched T x k y l ≡ true) ⊎ ((p : Pair) × In p (corresponding (parts k) (parts l)) × Chain (pair_parts T) (mismatch T) p)
  differ-kinds n x y k l rec h =
      let same = eqb (kind_number k) (kind_number l) && eqb (own_number x k) (own_number y l) && alike T (members_of k) (members_of l) in
      cases same
      (λ e.
      let m = matched T x y k l e in
      let r = corr-fails (same_in T n) (parts k) (parts l) (parts-long x y k l m.0 m.1) (rw e at h) in
      inr (r.0, r.1, rec r.0.left r.0.right r.2))
      (λ e. inl (rw e))

  -- what differs at some number of steps has such a chain
  pub false-chain : (n : ℕ) (x y : TypeKey) → same_in T n x y ≡ false → Differ T x y
  unfolding same_in same_step mismatch pair_parts
  false-chain zero x y h = clash refl h
  false-chain (suc n) x y h = either (differ-kinds n x y (kind_at T x) (kind_at T y) (false-chain n) h) (λ e. here e) (λ r. there r.1 r.2)
