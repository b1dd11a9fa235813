-- Laws of chains (specs/Chains.antt): they are empty at first, a type is put before the others of its bucket, and what is not met along one does not agree.
use mathlib.Core.Path.{◌≡◌, sym, ap, ◌∙◌, subst}
use mathlib.Core.Bool.{Bool, true, false}
use mathlib.Core.Logic.{◌≢◌}
use Prim.Native.Nat.{ℕ, ◌+◌, ◌-◌, ◌<◌, ◌≤◌}
use native.Mathlib.Omega.{arith}
use native.Mathlib.Decide.{dec_lt}
use lib.Dec.{eqb}
use lib.ListN.{length, get_or, set, replicate}
use lib.Seq.{get_or-set_same, get_or-set_other}
use borrow.Author.Count.{below_more}
use borrow.Author.Tests.{eqb-true, eqb-false}
use Rattle.objects.specs.Rows.{Words}
use Rattle.objects.specs.Table.{Table, type_key}
use Rattle.objects.proofs.ListLaws.{cases}
use Rattle.objects.proofs.BoolLaws.{false_of}
use Rattle.pair_marks.proofs.Zero.{get_or-zeros}
use Rattle.twins.specs.Labels.{agrees, Fit}
use Rattle.twins.specs.Chains.{buckets, bucket_of, Covers, Linked, Headed}
use Rattle.twins.proofs.BucketLaws.{agrees-bucket}

module _ (T : Table) (labels : Words) where
  -- ---- chains that grow

  pub linked-none : (links : Words) → Linked T labels links 0
  linked-none links u h = absurd (omega arith)

  covers-none : (c b : ℕ) → c ≡ 0 → Covers T labels c 0 b
  covers-none c b e = record { within = omega arith; there = λ n. absurd (n e); passed = λ v h k. absurd (omega arith) }

  pub headed-none : (heads : Words) → heads ≡ replicate (length heads) 0 → Headed T labels heads 0
  headed-none heads e b h = covers-none (get_or heads b 0) b (ap (λ (l : Words). get_or l b 0) e ∙ get_or-zeros (length heads) b)

  -- a type of another bucket is passed
  covers_more : (c n b : ℕ) → Covers T labels c n b → bucket_of T labels (type_key n) ≢ b → Covers T labels c (n + 1) b
  covers_more c n b old other = record {
    within = omega (arith, old.within);
    there = old.there;
    passed = λ v low lt. below_more (λ (k : ℕ). c ≤ k → bucket_of T labels (type_key k) ≢ b) n (λ k less l. old.passed k l less) (λ l. other) v lt low;
  }

  covers-own : (n b : ℕ) → bucket_of T labels (type_key n) ≡ b → Covers T labels (n + 1) (n + 1) b
  covers-own n b e = record {
    within = omega arith;
    there = λ z. let back : n + 1 - 1 ≡ n = omega arith in rw back e;
    passed = λ v low lt. absurd (omega arith);
  }

  pub headed-more : (heads : Words) (n b : ℕ) → b < length heads → b ≡ bucket_of T labels (type_key n) → Headed T labels heads n → Headed T labels (set heads b (n + 1)) (n + 1)
  headed-more heads n b h e old d lt =
      cases (eqb d b)
      (λ q. let is = eqb-true d b q in rw (is, get_or-set_same heads b (n + 1) 0 h) (covers-own n b (sym e)))
      (λ q. let not = eqb-false d b q in rw (get_or-set_other heads b d (n + 1) 0 not) (covers_more (get_or heads d 0) n d (old d lt) (λ f. not (sym f ∙ sym e))))

  -- where the chain of a type's bucket begins
  pub head-covers : (heads : Words) (n b : ℕ) → Headed T labels heads n → b ≡ bucket_of T labels (type_key n) → b < buckets → Covers T labels (get_or heads b 0) n (bucket_of T labels (type_key n))
  head-covers heads n b headed e h = subst (λ (d : ℕ). Covers T labels (get_or heads b 0) n d) e (headed b h)

  pub linked-more : (links : Words) (n link : ℕ) → n < length links → Covers T labels link n (bucket_of T labels (type_key n)) → Linked T labels links n → Linked T labels (set links n link) (n + 1)
  linked-more links n link h covers old =
      below_more (λ (u : ℕ). Covers T labels (get_or (set links n link) u 0) u (bucket_of T labels (type_key u))) n
      (λ u lt. rw (get_or-set_other links n u link 0 (λ q. omega arith)) (old u lt)) (rw (get_or-set_same links n link 0 h) covers)

  -- ---- along a chain

  -- what is left from the link c on: no type after its own and before t agrees with t
  pub record Unfit (t c : ℕ) : Type 0 where
    pub within : c ≤ t
    pub there : c ≢ 0 → bucket_of T labels (type_key (c - 1)) ≡ bucket_of T labels (type_key t)
    pub passed : (v : ℕ) → c ≤ v → v < t → agrees T labels (type_key v) (type_key t) ≡ false

  -- a type of another bucket does not agree
  other-bucket : (v t : ℕ) → bucket_of T labels (type_key v) ≢ bucket_of T labels (type_key t) → agrees T labels (type_key v) (type_key t) ≡ false
  other-bucket v t n = false_of (agrees T labels (type_key v) (type_key t)) (λ e. n (agrees-bucket T labels (type_key v) (type_key t) e))

  pub unfit-none : (t c : ℕ) → Covers T labels c t (bucket_of T labels (type_key t)) → Unfit t c
  unfit-none t c covers = record { within = covers.within; there = covers.there; passed = λ v low lt. other-bucket v t (covers.passed v low lt) }

  module _ (t c u : ℕ) (h : 0 < c) (e : u ≡ c - 1) (old : Unfit t c) where
    pub unfit-less : u < t
    unfit-less = omega (arith, old.within)

    one-bucket : bucket_of T labels (type_key u) ≡ bucket_of T labels (type_key t)
    one-bucket = rw e (old.there (λ z. omega arith))

    -- its type does not agree
    pub unfit-more : (links : Words) (d : ℕ) → d ≡ get_or links u 0 → Linked T labels links t → {b : Bool} → b ≡ agrees T labels (type_key u) (type_key t) → b ≡ false → Unfit t d
    unfit-more links d f linked a b =
        let covers : Covers T labels d u (bucket_of T labels (type_key u)) = rw f (linked u unfit-less) in
        let most = covers.within in
        let less = unfit-less in
        record {
          within = omega arith;
          there = λ n. covers.there n ∙ one-bucket;
          passed = λ v low lt. elim (dec_lt v u) [
            | yes below ↦ other-bucket v t (λ q. covers.passed v low below (q ∙ sym one-bucket))
            | no above ↦ cases (eqb v u) (λ q. let is = eqb-true v u q in rw is (sym a ∙ b)) (λ q. let not = eqb-false v u q in old.passed v (after v not above) lt)
          ];
        }
      where
        after : (v : ℕ) → (v ≡ u → ⊥) → (v < u → ⊥) → c ≤ v
        after v p q = omega arith

    -- it does
    pub unfit-found : {b : Bool} → b ≡ agrees T labels (type_key u) (type_key t) → b ≡ true → Fit T labels t u
    unfit-found a b = let less = unfit-less in record { most = omega arith; found = λ lt. sym a ∙ b; none = λ is. absurd (omega arith) }

    -- the next link is nearer to the end
    pub unfit-falls : (links : Words) (d : ℕ) → d ≡ get_or links u 0 → Linked T labels links t → d < c
    unfit-falls links d f linked = let most = (linked u unfit-less).within in omega arith

  pub unfit-end : (t c : ℕ) → c ≤ 0 → Unfit t c → Fit T labels t t
  unfit-end t c z old = record { most = omega arith; found = λ lt. absurd (omega arith); none = λ is v lt. old.passed v (omega arith) lt }
