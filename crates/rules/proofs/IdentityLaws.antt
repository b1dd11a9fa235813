-- IDENTITY (I): `identical` is the paper's sentence, "yes unless some finite chain of corresponding parts reaches a mismatch", whatever the chain's length
-- (`identical-chain`); it holds exactly if two types agree at every number of steps (`identical-steps`); it is an equivalence; and it is one step of
-- itself (`identical-parts`, `identical-step`). For every key of a sound table, also for one that the table lacks.
use mathlib.Core.Path.{◌≡◌, refl, sym, ap₂}
use mathlib.Core.Bool.{Bool, true, false}
use mathlib.Core.List.{List, [], ◌∷◌}
use mathlib.Core.Logic.{◌⊎◌, inl, inr, ◌↔◌}
use Prim.Native.Nat.{ℕ, zero, suc, ◌+◌, ◌*◌, ◌<◌}
use native.Mathlib.Omega.{arith}
use native.Mathlib.Decide.{dec_lt}
use native.Mathlib.Nat.{suc-mul, mul-le-mul_right}
use borrow.Author.Tests.{not-false}
use Rattle.objects.specs.Lists.{In}
use Rattle.objects.specs.declared.TypeKey.{TypeKey}
use Rattle.objects.specs.Table.{Table, size, same_type, kind_at}
use Rattle.objects.proofs.ListLaws.{cases, clash, and_l, and_r}
use Rattle.objects.proofs.BoolLaws.{and_i, iff-eq}
use Rattle.objects.proofs.PairLaws.{AllPairs}
use Rattle.objects.proofs.KeyLaws.{key-eq, same_key, same_self as type-self}
use Rattle.rules.specs.Chains.{leads, Chain, here, there}
use Rattle.rules.specs.Identity.{real_type, own_number, parts, Pair, same_pair, corresponding, mismatch, pair_parts, identical}
use Rattle.rules.specs.StepIdentity.{same_step, same_in}
use Rattle.rules.specs.Sound.{Sound}
use Rattle.rules.proofs.RangeLaws.{kind-out, part-in}
use Rattle.rules.proofs.ChainLaws.{AtMost, leads-sound, leads-iff}
use Rattle.rules.proofs.StepLaws.{Holds, Agree, step-agree, agree-map, same-zero, same-split, same-join, same_self, same_turn, same-trans, corr-from, chain-false, false-chain}

abbrev pub pair : TypeKey → TypeKey → Pair
pair x y = record { left = x; right = y }

-- ---- pairs of types of the table are at most size * size

pub same_pair-true : (p q : Pair) → same_pair p q ≡ true → p ≡ q
same_pair-true p q h =
    ap₂ pair (same_key p.left q.left (and_l (same_type p.left q.left) (same_type p.right q.right) h)) (same_key p.right q.right (and_r (same_type p.left q.left) (same_type p.right q.right) h))

-- a number in base n has one first digit
high : (n a b c d : ℕ) → b < n → a * n + b ≡ c * n + d → a < c → ⊥
high n a b c d hb e h = let k = mul-le-mul_right n h in omega (arith, suc-mul a n)

digits : (n a b c d : ℕ) → b < n → d < n → a * n + b ≡ c * n + d → (a ≡ c) × (b ≡ d)
digits n a b c d hb hd e =
    let f : a ≡ c = elim (dec_lt a c) [ yes h ↦ absurd (high n a b c d hb e h) | no h ↦ elim (dec_lt c a) [ yes k ↦ absurd (high n c d a b hd (sym e) k) | no k ↦ omega arith ] ] in
    (f, let g : c * n + b ≡ c * n + d = rw f at e in omega arith)

fits : (n a b : ℕ) → a < n → b < n → a * n + b < n * n
fits n a b ha hb = let k = mul-le-mul_right n ha in omega (arith, suc-mul a n)

abbrev Inside : Table → Pair → Type 0
Inside T p = (p.left.0 < size T) × (p.right.0 < size T)

pairs-few : (T : Table) → Sound T → AtMost (size T * size T) same_pair (pair_parts T) (Inside T)
unfolding pair_parts
pairs-few T s = record {
  equal = same_pair-true;
  self = λ p. and_i (type-self p.left) (type-self p.right);
  closed = λ p q h i. let r = corr-from (parts (kind_at T p.left)) (parts (kind_at T p.right)) q i in (part-in T s p.left q.left r.0, part-in T s p.right q.right r.1);
  number = λ p. p.left.0 * size T + p.right.0;
  below = λ p h. fits (size T) p.left.0 p.right.0 h.0 h.1;
  one = λ p q h k e. let d = digits (size T) p.left.0 p.right.0 q.left.0 q.right.0 h.1 k.1 e in ap₂ pair (key-eq p.left q.left d.0) (key-eq p.right q.right d.1);
}

-- ---- keys that the table lacks

-- where no step leads on, a search tells whether the test passes, if it looks at all
stuck : {A : Type 0} (same : A → A → Bool) (next : A → List A) (p : A → Bool) (n : ℕ) (x : A) → next x ≡ [] → (n ≡ 0 → p x ≡ false) → p x ≡ true → leads same next p n [] (x ∷ []) ≡ true
unfolding leads
stuck same next p zero x e z h = clash h (z refl)
stuck same next p (suc n) x e z h = rw (h, leads)

ends : {A : Type 0} (next : A → List A) (p : A → Bool) (x : A) → next x ≡ [] → Chain next p x → p x ≡ true
ends next p x e (here h) = h
ends next p x e (there {y = y} i c) = let j : In y [] = rw e at i in absurd j

module _ (T : Table) where
  no-parts : (x y : TypeKey) → ((x.0 < size T → ⊥) ⊎ (y.0 < size T → ⊥)) → pair_parts T (pair x y) ≡ []
  unfolding pair_parts parts
  no-parts x y (inl h) = rw (kind-out T x h)
  no-parts x y (inr h) = rw (kind-out T y h) (none (parts (kind_at T x)))
    where
      none : (xs : List TypeKey) → corresponding xs [] ≡ []
      none [] = refl
      none (z ∷ zs) = refl

  -- a table of no types tells none apart
  nothing : (x y : TypeKey) → size T * size T ≡ 0 → mismatch T (pair x y) ≡ false
  unfolding mismatch own_number real_type
  nothing x y e = rw (kind-out T x (λ h. out x h), kind-out T y (λ h. out y h))
    where
      out : (t : TypeKey) → t.0 < size T → ⊥
      out t h = let f = fits (size T) t.0 t.0 h h in omega arith

  -- "`yes` unless some finite chain of corresponding parts reaches a mismatch"
  pub identical-chain : Sound T → (x y : TypeKey) → (identical T x y ≡ false) ↔ Chain (pair_parts T) (mismatch T) (pair x y)
  unfolding identical
  identical-chain s x y = (λ e. found (leads-sound same_pair (pair_parts T) (mismatch T) (size T * size T) [] (pair x y ∷ []) (not-false _ e)), λ c. rw (search c))
    where
      found : (p : Pair) × In p (pair x y ∷ []) × Chain (pair_parts T) (mismatch T) p → Chain (pair_parts T) (mismatch T) (pair x y)
      found (p, inl e, c) = rw e at c
      found (p, inr i, c) = absurd i

      outside : (x.0 < size T → ⊥) ⊎ (y.0 < size T → ⊥) → Chain (pair_parts T) (mismatch T) (pair x y) → leads same_pair (pair_parts T) (mismatch T) (size T * size T) [] (pair x y ∷ []) ≡ true
      outside o c = stuck same_pair (pair_parts T) (mismatch T) (size T * size T) (pair x y) (no-parts x y o) (nothing x y) (ends (pair_parts T) (mismatch T) (pair x y) (no-parts x y o) c)

      inside : Inside T (pair x y) → (p : Pair) → In p (pair x y ∷ []) → Inside T p
      inside h p (inl e) = rw e h
      inside h p (inr i) = absurd i

      search : Chain (pair_parts T) (mismatch T) (pair x y) → leads same_pair (pair_parts T) (mismatch T) (size T * size T) [] (pair x y ∷ []) ≡ true
      search c =
          elim (dec_lt x.0 (size T)) [
            | no h ↦ outside (inl h) c
            | yes hx ↦ elim (dec_lt y.0 (size T)) [ no h ↦ outside (inr h) c | yes hy ↦ (leads-iff (pairs-few T s) (mismatch T) (pair x y ∷ []) (inside (hx, hy))).1 (pair x y, inl refl, c) ]
          ]

  -- chains of every length
  pub identical-steps : Sound T → (x y : TypeKey) → (identical T x y ≡ true) ↔ ((n : ℕ) → same_in T n x y ≡ true)
  identical-steps s x y = (
    λ e n. cases (same_in T n x y) (λ h. h) (λ h. clash e ((identical-chain s x y).1 (false-chain T n x y h))),
    λ h. cases (identical T x y) (λ e. e) (λ e. let r = chain-false T (pair x y) ((identical-chain s x y).0 e) in clash (h r.0) r.1),
  )

  -- ---- an equivalence

  pub identical-self : Sound T → (x : TypeKey) → identical T x x ≡ true
  identical-self s x = (identical-steps s x x).1 (λ n. same_self T n x)

  pub identical-turn : Sound T → (x y : TypeKey) → identical T x y ≡ true → identical T y x ≡ true
  identical-turn s x y h = (identical-steps s y x).1 (λ n. same_turn T n x y ((identical-steps s x y).0 h n))

  pub identical-trans : Sound T → (x y z : TypeKey) → identical T x y ≡ true → identical T y z ≡ true → identical T x z ≡ true
  identical-trans s x y z h k = (identical-steps s x z).1 (λ n. same-trans T n x y z ((identical-steps s x y).0 h n) ((identical-steps s y z).0 k n))

  -- ---- one step of itself

  gather : Sound T → (xs ys : List TypeKey) → ((n : ℕ) → AllPairs (Holds (same_in T n)) xs ys) → AllPairs (Holds (identical T)) xs ys
  gather s [] [] g = tt
  gather s [] (y ∷ ys) g = g 0
  gather s (x ∷ xs) [] g = g 0
  gather s (x ∷ xs) (y ∷ ys) g = ((identical-steps s x y).1 (λ n. (g n).0), gather s xs ys (λ n. (g n).1))

  -- identical types: the same kind number and own number, members alike, and identical parts at the same places
  pub identical-parts : Sound T → (x y : TypeKey) → (identical T x y ≡ true) ↔ Agree T (identical T) x y
  identical-parts s x y = (down, λ a. (identical-steps s x y).1 (up a))
    where
      down : identical T x y ≡ true → Agree T (identical T) x y
      down h =
          let a = same-split T 0 x y ((identical-steps s x y).0 h 1) in
          record {
            kinds = a.kinds;
            owns = a.owns;
            members = a.members;
            related = gather s (parts (kind_at T x)) (parts (kind_at T y)) (λ n. (same-split T n x y ((identical-steps s x y).0 h (suc n))).related);
          }

      up : Agree T (identical T) x y → (n : ℕ) → same_in T n x y ≡ true
      up a zero = same-zero T x y
      up a (suc n) = same-join T n x y (agree-map T (identical T) (same_in T n) x y (λ p q i j h. (identical-steps s p q).0 h n) a)

  pub identical-step : Sound T → (x y : TypeKey) → identical T x y ≡ same_step T (identical T) x y
  identical-step s x y =
      iff-eq (identical T x y) (same_step T (identical T) x y) (λ h. (step-agree T (identical T) x y).1 ((identical-parts s x y).0 h)) (λ h. (identical-parts s x y).1 ((step-agree T (identical T) x y).0 h))

  -- the largest such relation: a pair that is met again while it is being compared may count as identical
  pub identical-largest : Sound T → (R : TypeKey → TypeKey → Bool) → ((x y : TypeKey) → R x y ≡ true → Agree T R x y) → (x y : TypeKey) → R x y ≡ true → identical T x y ≡ true
  identical-largest s R h x y e = (identical-steps s x y).1 (λ n. go n x y e)
    where
      go : (n : ℕ) (x y : TypeKey) → R x y ≡ true → same_in T n x y ≡ true
      go zero x y e = same-zero T x y
      go (suc n) x y e = same-join T n x y (agree-map T R (same_in T n) x y (λ p q i j f. go n p q f) (h x y e))
