-- The search for a chain that leads back (specs/Search.antt): what holds after each step of the code.
use mathlib.Core.Path.{◌≡◌, refl, sym, ap, subst, ◌∙◌}
use mathlib.Core.Bool.{true, false}
use mathlib.Core.Logic.{◌≢◌}
use Prim.Native.Nat.{ℕ, zero, suc, ◌+◌, ◌<◌, ◌≤◌}
use native.Mathlib.Omega.{arith}
use lib.Dec.{eqb, ltb}
use lib.ListN.{length, set, replicate}
use borrow.Author.Tests.{eqb-true, eqb-false, ltb-true, ltb-false}
use Rattle.objects.specs.declared.TypeKey.{TypeKey}
use Rattle.objects.specs.Bounds.{max_types}
use Rattle.objects.specs.Lists.{In}
use Rattle.objects.specs.Table.{type_key, same_type}
use Rattle.objects.specs.Rows.{Words, word_at, type_count}
use Rattle.objects.specs.Laid.{Laid}
use Rattle.objects.proofs.ListLaws.{cases, clash}
use Rattle.objects.proofs.KeyLaws.{key-eq, same_key, same_self}
use Rattle.objects.proofs.Stores.{word-put, word_kept}
use Rattle.rules.specs.Chains.{Chain, here, there}
use Rattle.cycles.specs.Contents.{inside, content_total, content_read, Within, Back}
use Rattle.cycles.specs.Search.{Decides, marked, Queued, Grown, Pushed, Meets, Met, Searched}
use Rattle.cycles.proofs.CountLaws.{count-few, count_none, count_less, count-more}
use Rattle.cycles.proofs.ContentLaws.{inside-has, inside-In}

-- ---- one number is met

module _ (marks queue : Words) (end e : ℕ) (small : e < max_types) (q : Queued marks queue end) where
  same_queue : Grown marks queue end marks queue end
  same_queue = record { queued = q; more = omega arith; kept = λ j l. refl; stays = λ x p. p }

  pub push-old : {r : ℕ} → r ≡ word_at marks e → (r ≡ 0 → ⊥) → Pushed e marks queue end marks queue end
  push-old p z = record { grown = same_queue; new = λ j l h. absurd (omega arith); here = omega (arith, p, z) }

  module _ {r : ℕ} (p : r ≡ word_at marks e) (z : r ≡ 0) where
    unmarked : ltb 0 (word_at marks e) ≡ false
    unmarked = rw (← p, z)

    pub push-room : end < max_types
    unfolding marked
    push-room = let c = q.counted in let l = count_less (λ x. ltb 0 (word_at marks x)) e max_types small unmarked in omega (arith, c, l)

    module _ (long : max_types ≤ length marks) (wide : max_types ≤ length queue) where
      mark-here : word_at (set marks e 1) e ≡ 1
      mark-here = word-put marks e 1 (omega arith)

      mark-other : (x : ℕ) → x ≢ e → word_at (set marks e 1) x ≡ word_at marks x
      mark-other x ne = word_kept marks e 1 x ne

      stays : (x : ℕ) → 0 < word_at marks x → 0 < word_at (set marks e 1) x
      stays x m =
          cases (eqb x e)
          (λ f. let i = eqb-true x e f in let h = mark-here in rw (i, h) (omega arith))
          (λ f. rw (mark-other x (eqb-false x e f)) m)

      last : word_at (set queue end e) end ≡ e
      last = let r = push-room in word-put queue end e (omega arith)

      kept : (j : ℕ) → j < end → word_at (set queue end e) j ≡ word_at queue j
      kept j l = word_kept queue end e j (λ i. omega arith)

      counted : end + 1 ≡ marked (set marks e 1)
      unfolding marked
      counted =
          let c = q.counted in
          let m = count-more (λ x. ltb 0 (word_at marks x)) (λ x. ltb 0 (word_at (set marks e 1) x)) e max_types small unmarked (rw mark-here) (λ i ne. ap (λ k. ltb 0 k) (mark-other i ne)) in
          omega (arith, c, m)

      queued : Queued (set marks e 1) (set queue end e) (end + 1)
      queued = record {
        counted = counted;
        entry = λ j l. cases (eqb j end)
            (λ f. let i = eqb-true j end f in rw (i, last, mark-here) (omega arith))
            (λ f. let ne = eqb-false j end f in let k : j < end = omega arith in rw (kept j k) (stays (word_at queue j) (q.entry j k)));
        place = λ x l m. cases (eqb x e)
            (λ f. (end, omega arith, last ∙ sym (eqb-true x e f)))
            (λ f. let s = q.place x l (rw (mark-other x (eqb-false x e f)) at m) in let k = s.1 in (s.0, omega (arith, k), kept s.0 s.1 ∙ s.2));
      }

      pub push-new : Pushed e marks queue end (set marks e 1) (set queue end e) (end + 1)
      push-new = record {
        grown = record { queued = queued; more = omega arith; kept = kept; stays = stays };
        new = λ j l h. let i : j ≡ end = omega arith in rw i last;
        here = rw mark-here (omega arith);
      }

-- ---- all contents of a type are met

module _ (rows : Words) (x : TypeKey) (marks queue : Words) (end : ℕ) where
  pub meet-start : Queued marks queue end → Meets rows x 0 marks queue end marks queue end
  meet-start q = record {
    grown = record { queued = q; more = omega arith; kept = λ j l. refl; stays = λ y p. p };
    new = λ j l h. absurd (omega arith);
    all = λ i l. absurd (omega arith);
  }

  pub meet-more : (i : ℕ) (marks₁ queue₁ : Words) (end₁ : ℕ) (marks₂ queue₂ : Words) (end₂ : ℕ) → x.0 < type_count rows → i < content_total rows x
      → Meets rows x i marks queue end marks₁ queue₁ end₁ → {e : TypeKey} → e ≡ content_read rows x i → Pushed e.0 marks₁ queue₁ end₁ marks₂ queue₂ end₂
      → Meets rows x (i + 1) marks queue end marks₂ queue₂ end₂
  meet-more i marks₁ queue₁ end₁ marks₂ queue₂ end₂ h l m {e} p s = record {
    grown = record {
      queued = s.grown.queued;
      more = let a = m.grown.more in let b = s.grown.more in omega (arith, a, b);
      kept = λ j k. let a = m.grown.more in s.grown.kept j (omega (arith, a, k)) ∙ m.grown.kept j k;
      stays = λ y t. s.grown.stays y (m.grown.stays y t);
    };
    new = λ j a b. cases (ltb j end₁)
        (λ f. let k = ltb-true j end₁ f in subst (λ u. In (type_key u) (inside rows x)) (sym (s.grown.kept j k)) (m.new j a k))
        (λ f. let k = ltb-false j end₁ f in subst (λ u. In u (inside rows x)) (sym (ap type_key (s.new j k b) ∙ p)) (inside-has rows x h i l));
    all = λ j k. cases (eqb j i)
        (λ f. subst (λ u. 0 < word_at marks₂ u.0) (p ∙ sym (ap (content_read rows x) (eqb-true j i f))) s.here)
        (λ f. let ne = eqb-false j i f in s.grown.stays (content_read rows x j).0 (m.all j (omega arith)));
  }

  pub meet-end : (i : ℕ) (marks' queue' : Words) (end' : ℕ) → Meets rows x i marks queue end marks' queue' end' → {n : ℕ} → n ≡ content_total rows x → n ≤ i
      → Meets rows x (content_total rows x) marks queue end marks' queue' end'
  meet-end i marks' queue' end' m q l = record { grown = m.grown; new = m.new; all = λ j h. m.all j (omega (arith, q, l, h)) }

-- what it contains has a mark
pub content-small : (rows : Words) (x : TypeKey) → Laid rows → Within rows → x.0 < type_count rows → {n : ℕ} → n ≡ content_total rows x → (i : ℕ) → i < n → {e : TypeKey} → e ≡ content_read rows x i → e.0 < max_types
content-small rows x laid within h q i l {e} p =
    let b = laid.types in
    let w = within x e (subst (λ u. In u (inside rows x)) (sym p) (inside-has rows x h i (omega (arith, q, l)))) in
    omega (arith, b, w)

-- the queue has room for every type
pub queue-few : (marks queue : Words) (end : ℕ) → Queued marks queue end → end ≤ max_types
unfolding marked
queue-few marks queue end q = let c = q.counted in let f = count-few (λ x. ltb 0 (word_at marks x)) max_types in omega (arith, c, f)

-- once all are met, each that x contains is marked
all-met : (rows : Words) (x : TypeKey) (n : ℕ) (marks queue : Words) (end : ℕ) (marks' queue' : Words) (end' : ℕ) → x.0 < type_count rows → n ≡ content_total rows x
    → Meets rows x n marks queue end marks' queue' end' → Met rows marks' x
all-met rows x n marks queue end marks' queue' end' h q m e i =
    let r = inside-In rows x h e i in
    let k = r.1 in
    subst (λ u. 0 < word_at marks' u.0) (sym r.2) (m.all r.0 (omega (arith, q, k)))

-- ---- the search

zero_word : (n x : ℕ) → word_at (replicate n 0) x ≡ 0
unfolding word_at
zero_word zero x = refl
zero_word (suc n) zero = refl
zero_word (suc n) (suc x) = zero_word n x

-- nothing is marked in an array of zeros
pub none-queued : (n : ℕ) (queue : Words) → Queued (replicate n 0) queue 0
unfolding marked
none-queued n queue = record {
  counted = sym (count_none (λ x. ltb 0 (word_at (replicate n 0) x)) max_types (λ x l. rw (zero_word n x)));
  entry = λ j l. absurd (omega arith);
  place = λ x l p. let e = zero_word n x in absurd (omega (arith, e, p));
}

module _ (rows : Words) (t : TypeKey) (laid : Laid rows) (within : Within rows) where
  pub search-start : t.0 < type_count rows → (marks queue marks' queue' : Words) (end' : ℕ) → Meets rows t (content_total rows t) marks queue 0 marks' queue' end' → Searched rows t marks' queue' end' 0
  search-start h marks queue marks' queue' end' m = record {
    queued = m.grown.queued;
    order = omega arith;
    reached = λ j l. let i = m.new j (omega arith) l in (within t (type_key (word_at queue' j)) i, λ c. (type_key (word_at queue' j), i, c));
    first = all-met rows t (content_total rows t) marks queue 0 marks' queue' end' h refl m;
    passed = λ j l. absurd (omega arith);
  }

  module _ (marks queue : Words) (end done : ℕ) (s : Searched rows t marks queue end done) where
    -- t itself is met
    pub search-found : done < end → {x : ℕ} → x ≡ word_at queue done → x ≡ t.0 → Decides (Back rows t) true
    search-found l {x} p e = record {
      yes = λ _. (s.reached done l).1 (here (subst (λ u. same_type t u ≡ true) (key-eq t (type_key (word_at queue done)) (sym e ∙ p)) (same_self t)));
      no = λ f. clash refl f;
    }

    pub in-table : done < end → {x : ℕ} → x ≡ word_at queue done → x < type_count rows
    in-table l p = let r = (s.reached done l).0 in omega (arith, p, r)

    -- another is: what it contains is to be looked at
    pub search-more : done < end → {x : ℕ} → x ≡ word_at queue done → (x ≡ t.0 → ⊥) → (marks' queue' : Words) (end' : ℕ)
        → Meets rows (type_key x) (content_total rows (type_key x)) marks queue end marks' queue' end' → Searched rows t marks' queue' end' (done + 1)
    search-more l {x} p ne marks' queue' end' m = record {
      queued = m.grown.queued;
      order = let a = m.grown.more in omega (arith, a, l);
      reached = λ j k. cases (ltb j end)
          (λ f. let d = ltb-true j end f in subst (λ u. (u < type_count rows) × (Chain (inside rows) (same_type t) (type_key u) → Back rows t)) (sym (m.grown.kept j d)) (s.reached j d))
          (λ f. let i = m.new j (ltb-false j end f) k in
          (within (type_key x) (type_key (word_at queue' j)) i, λ c. (s.reached done l).1 (subst (λ u. Chain (inside rows) (same_type t) (type_key u)) p (there i c))));
      first = λ e i. m.grown.stays e.0 (s.first e i);
      passed = λ j k. cases (eqb j done)
          (λ f. let d : word_at queue' j ≡ x = m.grown.kept j (let g = eqb-true j done f in omega (arith, g, l)) ∙ ap (word_at queue) (eqb-true j done f) ∙ sym p in
          subst (λ u. (u ≢ t.0) × Met rows marks' (type_key u)) (sym d)
          (ne, all-met rows (type_key x) (content_total rows (type_key x)) marks queue end marks' queue' end' (in-table l p) refl m))
          (λ f. let g = eqb-false j done f in let b : j < done = omega arith in
          subst (λ u. (u ≢ t.0) × Met rows marks' (type_key u)) (sym (m.grown.kept j (omega (arith, b, l))))
          ((s.passed j b).0, λ e i. m.grown.stays e.0 ((s.passed j b).1 e i)));
    }

    -- nothing is left: no chain from what is marked leads to t
    module _ (over : end ≤ done) where
      no-chain : (u : TypeKey) → u.0 < type_count rows → 0 < word_at marks u.0 → Chain (inside rows) (same_type t) u → ⊥
      no-chain u h m (here e) =
          let b = laid.types in
          let r = s.queued.place u.0 (omega (arith, b, h)) m in
          let k = r.1 in
          (s.passed r.0 (omega (arith, k, over))).0 (r.2 ∙ ap (λ v. v.0) (sym (same_key t u e)))
      no-chain u h m (there {y = y} i c) =
          let b = laid.types in
          let r = s.queued.place u.0 (omega (arith, b, h)) m in
          let k = r.1 in
          no-chain y (within u y i) ((s.passed r.0 (omega (arith, k, over))).1 y (subst (λ v. In y (inside rows (type_key v))) (sym r.2) i)) c

      pub search-none : Decides (Back rows t) false
      search-none = record { yes = λ f. clash f refl; no = λ _ b. no-chain b.0 (within t b.0 b.1) (s.first b.0 b.1) b.2 }
