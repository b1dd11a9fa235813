-- What `leads` says: some finite chain, of any length, ends where the test passes (`leads-iff`). As many turns are enough as there are things to meet.
use mathlib.Core.Path.{◌≡◌, refl}
use mathlib.Core.Bool.{Bool, true, false, not}
use mathlib.Core.List.{List, [], ◌∷◌, ◌++◌, map}
use mathlib.Core.Logic.{◌⊎◌, inl, inr, ◌↔◌}
use Prim.Native.Nat.{ℕ, zero, suc, ◌+◌, ◌≤◌, ◌<◌}
use native.Mathlib.Omega.{arith}
use lib.ListN.{length, length-map}
use borrow.Author.Tests.{not-true}
use Rattle.objects.specs.Lists.{any, In}
use Rattle.objects.specs.declared.TypeKey.{TypeKey}
use Rattle.objects.specs.Table.{same_type}
use Rattle.objects.proofs.ListLaws.{cases, clash, either, none-In, some-In, In-keep, In-append, In-append-l, In-append-r, In-map}
use Rattle.objects.proofs.Pigeons.{Distinct, pigeons}
use Rattle.objects.proofs.KeyLaws.{key-eq, same_key, same_self}
use Rattle.rules.specs.Chains.{without, leads, Chain, here, there}

-- a chain from one of the list
abbrev pub ChainFrom : {A : Type 0} → (A → List A) → (A → Bool) → List A → Type 0
ChainFrom next p l = (x : _) × In x l × Chain next p x

module _ {A : Type 0} (same : A → A → Bool) (next : A → List A) (p : A → Bool) where
  pub leads-sound : (k : ℕ) (met todo : List A) → leads same next p k met todo ≡ true → ChainFrom next p todo
  unfolding leads
  leads-sound zero met todo h = clash h refl
  leads-sound (suc k) met [] h = clash h refl
  leads-sound (suc k) met (x ∷ todo) h =
      cases (p x)
      (λ e. (x, inl refl, here e))
      (λ e. on (leads-sound k (x ∷ met) (without same (x ∷ met) (next x ++ todo)) (rw (e, leads) at h)))
    where
      on : ChainFrom next p (without same (x ∷ met) (next x ++ todo)) → ChainFrom next p (x ∷ todo)
      on r =
          either (In-append (next x) todo r.0 (In-keep (λ y. not (any (same y) (x ∷ met))) (next x ++ todo) r.0 r.1).0)
          (λ i. (x, inl refl, there i r.2))
          (λ i. (r.0, inr i, r.2))

-- The things that chains meet are at most N: each has a number below N, and no two the same. `same` tells them apart, and no step leads out of them.
pub record AtMost (N : ℕ) {A : Type 0} (same : A → A → Bool) (next : A → List A) (Here : A → Type 0) : Type 0 where
  pub equal : (x y : A) → same x y ≡ true → x ≡ y
  pub self : (x : A) → same x x ≡ true
  pub closed : (x y : A) → Here x → In y (next x) → Here y
  pub number : A → ℕ
  pub below : (x : A) → Here x → number x < N
  pub one : (x y : A) → Here x → Here y → number x ≡ number y → x ≡ y

module _ {N : ℕ} {A : Type 0} {same : A → A → Bool} {next : A → List A} {Here : A → Type 0} (few : AtMost N same next Here) (p : A → Bool) where
  -- no thing twice
  abbrev pub Apart : List A → Type 0
  Apart [] = Unit {0}
  Apart (x ∷ xs) = (any (same x) xs ≡ false) × Apart xs

  distinct : (l : List A) → Apart l → ((y : A) → In y l → Here y) → Distinct (map few.number l)
  distinct [] a h = tt
  distinct (x ∷ xs) a h = (λ i. again (In-map few.number xs (few.number x) i), distinct xs a.1 (λ y i. h y (inr i)))
    where
      again : (y : A) × In y xs × (few.number x ≡ few.number y) → ⊥
      again r =
          let e = few.one x r.0 (h x (inl refl)) (h r.0 (inr r.1)) r.2 in
          clash (rw e (few.self r.0)) (none-In (same x) xs r.0 a.0 r.1)

  counted : (l : List A) → Apart l → ((y : A) → In y l → Here y) → length l ≤ N
  counted l a h = rw (← length-map l few.number) (pigeons N (map few.number l) (distinct l a h) inside)
    where
      inside : (n : ℕ) → In n (map few.number l) → n < N
      inside n i = let r = In-map few.number l n i in rw r.2 (few.below r.0 (h r.0 r.1))

  -- what is not among the others is kept
  in_without : (others : List A) (y : A) (l : List A) → In y l → In y others ⊎ In y (without same others l)
  in_without others y [] i = elim i [ ]
  in_without others y (x ∷ l) i =
      cases (any (same x) others)
      (λ e. either i
      (λ q. let r = some-In (same x) others e in inl (rw (q, few.equal x r.0 r.2) r.1))
      (λ j. either (in_without others y l j) (λ k. inl k) (λ k. inr (rw e k))))
      (λ e. either i
      (λ q. inr (rw e (inl q)))
      (λ j. either (in_without others y l j) (λ k. inl k) (λ k. inr (rw e (inr k)))))

  -- what is kept is not among the others
  without-free : (others : List A) (y : A) (l : List A) → In y (without same others l) → any (same y) others ≡ false
  without-free others y l i = not-true (any (same y) others) (In-keep (λ z. not (any (same z) others)) l y i).1

  -- What holds from turn to turn: what was met failed, and its steps lead to what was met or is to be looked at.
  pub record Looked (k : ℕ) (met todo : List A) : Type 0 where
    pub turns : N ≤ k + length met
    pub apart : Apart met
    pub in-met : (y : A) → In y met → Here y
    pub in-todo : (y : A) → In y todo → Here y
    pub free : (y : A) → In y todo → any (same y) met ≡ false
    pub on : (x y : A) → In x met → In y (next x) → In y met ⊎ In y todo
    pub fails : (y : A) → In y met → p y ≡ false

  no-chain : (met : List A) → ((x y : A) → In x met → In y (next x) → In y met) → ((y : A) → In y met → p y ≡ false) → (x : A) → In x met → Chain next p x → ⊥
  no-chain met on fails x i (here e) = clash e (fails x i)
  no-chain met on fails x i (there {y = y} j c) = no-chain met on fails y (on x y i j) c

  or-none : {B C : Type 0} → (C → ⊥) → B ⊎ C → B
  or-none f s = either s (λ b. b) (λ c. absurd (f c))

  ended : (k : ℕ) (met : List A) → Looked k met [] → (x : A) → In x met → Chain next p x → ⊥
  ended k met l = no-chain met (λ x y i j. or-none (λ z. z) (l.on x y i j)) l.fails

  later : (met : List A) (x : A) (todo : List A) (y : A) → In y met ⊎ In y (x ∷ todo) → In y (x ∷ met) ⊎ In y (without same (x ∷ met) (next x ++ todo))
  later met x todo y (inl i) = inl (inr i)
  later met x todo y (inr (inl q)) = inl (inl q)
  later met x todo y (inr (inr i)) = in_without (x ∷ met) y (next x ++ todo) (In-append-r (next x) todo y i)

  looked-on : (k : ℕ) (met : List A) (x : A) (todo : List A) → p x ≡ false → Looked (suc k) met (x ∷ todo) → Looked k (x ∷ met) (without same (x ∷ met) (next x ++ todo))
  looked-on k met x todo e l = record {
    turns = let h = l.turns in omega arith;
    apart = (l.free x (inl refl), l.apart);
    in-met = λ y i. met-in y i;
    in-todo = λ y i. either (In-append (next x) todo y (In-keep (λ z. not (any (same z) (x ∷ met))) (next x ++ todo) y i).0) (λ j. few.closed x y (l.in-todo x (inl refl)) j) (λ j. l.in-todo y (inr j));
    free = λ y i. without-free (x ∷ met) y (next x ++ todo) i;
    on = λ z y i j. step z y i j;
    fails = λ y i. fail y i;
  }
    where
      met-in : (y : A) → In y (x ∷ met) → Here y
      met-in y (inl q) = rw q (l.in-todo x (inl refl))
      met-in y (inr i) = l.in-met y i

      fail : (y : A) → In y (x ∷ met) → p y ≡ false
      fail y (inl q) = rw q e
      fail y (inr i) = l.fails y i

      step : (z y : A) → In z (x ∷ met) → In y (next z) → In y (x ∷ met) ⊎ In y (without same (x ∷ met) (next x ++ todo))
      step z y (inl q) j = in_without (x ∷ met) y (next x ++ todo) (In-append-l (next x) todo y (rw q at j))
      step z y (inr i) j = later met x todo y (l.on z y i j)

  pub leads-complete : (k : ℕ) (met todo : List A) → Looked k met todo → leads same next p k met todo ≡ false → (x : A) → In x met ⊎ In x todo → Chain next p x → ⊥
  unfolding leads
  leads-complete zero met [] l h x i c = ended zero met l x (or-none (λ z. z) i) c
  leads-complete (suc k) met [] l h x i c = ended (suc k) met l x (or-none (λ z. z) i) c
  leads-complete zero met (y ∷ todo) l h x i c =
      let f = counted (y ∷ met) (l.free y (inl refl), l.apart) (both (l.in-todo y (inl refl)) l.in-met) in
      let t = l.turns in
      absurd (omega arith)
    where
      both : Here y → ((z : A) → In z met → Here z) → (z : A) → In z (y ∷ met) → Here z
      both r f z (inl q) = rw q r
      both r f z (inr j) = f z j
  leads-complete (suc k) met (y ∷ todo) l h x i c =
      cases (p y)
      (λ e. clash refl (rw (e, leads) at h))
      (λ e. leads-complete k (y ∷ met) (without same (y ∷ met) (next y ++ todo)) (looked-on k met y todo e l) (rw (e, leads) at h) x (later met y todo x i) c)

  -- LEADS IS A FINITE CHAIN OF ANY LENGTH
  pub leads-iff : (todo : List A) → ((y : A) → In y todo → Here y) → (leads same next p N [] todo ≡ true) ↔ ChainFrom next p todo
  leads-iff todo h = (λ e. leads-sound same next p N [] todo e, λ c. cases (leads same next p N [] todo) (λ e. e) (λ e. absurd (leads-complete N [] todo start e c.0 (inr c.1) c.2)))
    where
      start : Looked N [] todo
      start = record {
        turns = omega arith;
        apart = tt;
        in-met = λ y i. absurd i;
        in-todo = h;
        free = λ y i. refl;
        on = λ x y i j. absurd i;
        fails = λ y i. absurd i;
      }

-- `leads-iff` at types: steps lead to types that the table has
pub types-few : (N : ℕ) (next : TypeKey → List TypeKey) → ((x y : TypeKey) → In y (next x) → y.0 < N) → AtMost N same_type next (λ t. t.0 < N)
types-few N next inside = record {
  equal = same_key;
  self = same_self;
  closed = λ x y h i. inside x y i;
  number = λ t. t.0;
  below = λ t h. h;
  one = λ t u h k e. key-eq t u e;
}
