-- Laws of rounds (specs/Labels.antt): what is known before the first, what a round leaves, and that the labels which a round leaves as they are are the least twins.
use mathlib.Core.Path.{◌≡◌, refl, sym, ap, ◌∙◌}
use mathlib.Core.Bool.{Bool, true, false, ◌&&◌}
use mathlib.Core.List.{List, [], ◌∷◌, ◌++◌, map}
use Prim.Native.Nat.{ℕ, zero, suc, ◌+◌, ◌<◌, ◌≤◌}
use native.Mathlib.Omega.{arith}
use native.Mathlib.Decide.{dec_lt}
use lib.Dec.{eqb, ltb}
use lib.ListN.{length, get_or, set}
use lib.Seq.{get_or-set_same, get_or-set_other, set-set}
use borrow.Author.Count.{below_more}
use borrow.Author.Tests.{eqb-true, eqb-false, lt-ltb, ltb-true}
use Rattle.objects.specs.Lists.{keep, head_or, up_to}
use Rattle.objects.specs.declared.TypeKey.{TypeKey}
use Rattle.objects.specs.Rows.{Words}
use Rattle.objects.specs.Table.{Table, size, type_key}
use Rattle.objects.proofs.ListLaws.{cases, clash, and_l, and_r, keep_append, keep-none, any_none, In-map}
use Rattle.objects.proofs.BoolLaws.{and_i, false_of}
use Rattle.objects.proofs.Numbers.{up_to-below, each_more}
use Rattle.rules.specs.Identity.{identical}
use Rattle.rules.specs.Sound.{Sound}
use Rattle.rules.proofs.StepLaws.{Agree, agree-map}
use Rattle.rules.proofs.RangeLaws.{part-in}
use Rattle.rules.proofs.IdentityLaws.{identical-largest}
use Rattle.edits.specs.Tidy.{least}
use Rattle.twins.specs.Labels.{same_label, agrees, Fit, Classed, Coarse}
use Rattle.twins.proofs.AgreeLaws.{label_eq, eq-label, agrees-split, agrees-self, agrees-turn, agrees-trans, identical-agrees}

-- ---- before the first round

pub start-coarse : (T : Table) (labels : Words) → ((t : ℕ) → get_or labels t 0 ≡ 0) → Coarse T labels
start-coarse T labels z = record {
  low = λ t h. omega (arith, z t);
  kept = λ t u h k e. z t ∙ sym (z u);
}

-- ---- a round

module _ (T : Table) (labels : Words) where
  pub classed-none : (fresh : Words) → Classed T labels fresh 0
  classed-none fresh = record {
    low = λ t h. absurd (omega arith);
    agree = λ t h. absurd (omega arith);
    same = λ t u h k e. absurd (omega arith);
  }

  pub classed-all : (fresh : Words) (t n : ℕ) → t ≡ n → Classed T labels fresh t → Classed T labels fresh n
  classed-all fresh t n e old = rw e at old

  -- one label more
  module _ (fresh : Words) (t l : ℕ) (h : t < length fresh) (old : Classed T labels fresh t) where
    abbrev put : ℕ → ℕ
    put k = get_or (set fresh t l) k 0

    put-old : (k : ℕ) → k < t → put k ≡ get_or fresh k 0
    put-old k lt = get_or-set_other fresh t k l 0 (λ q. omega arith)

    put-new : put t ≡ l
    put-new = get_or-set_same fresh t l 0 h

    classed-put : l ≤ t → agrees T labels (type_key l) (type_key t) ≡ true
        → ((v : ℕ) → v < t → agrees T labels (type_key v) (type_key t) ≡ true → get_or fresh v 0 ≡ l) → Classed T labels (set fresh t l) (t + 1)
    classed-put most agree known = record {
      low = below_more (λ (k : ℕ). put k ≤ k) t (λ k lt. rw (put-old k lt) (old.low k lt)) (rw put-new most);
      agree = below_more (λ (k : ℕ). agrees T labels (type_key (put k)) (type_key k) ≡ true) t (λ k lt. rw (put-old k lt) (old.agree k lt)) (rw put-new agree);
      same = λ a b ha hb. below_more (λ (i : ℕ). (j : ℕ) → j < t + 1 → agrees T labels (type_key i) (type_key j) ≡ true → put i ≡ put j) t
          (λ i li. below_more (λ (j : ℕ). agrees T labels (type_key i) (type_key j) ≡ true → put i ≡ put j) t
          (λ j lj e. put-old i li ∙ old.same i j li lj e ∙ sym (put-old j lj)) (λ e. put-old i li ∙ known i li e ∙ sym put-new))
          (below_more (λ (j : ℕ). agrees T labels (type_key t) (type_key j) ≡ true → put t ≡ put j) t
          (λ j lj e. put-new ∙ sym (known j lj (agrees-turn T labels (type_key t) (type_key j) e)) ∙ sym (put-old j lj)) (λ e. refl))
          a ha b hb;
    }

  -- of a type that agrees with one before, the label of that one; of any other, its own number
  pub classed-more : (fresh : Words) (t u l : ℕ) → t < length fresh → Classed T labels fresh t → Fit T labels t u → l ≡ get_or (set fresh t t) u 0 → Classed T labels (set (set fresh t t) t l) (t + 1)
  classed-more fresh t u l h old fit e =
      rw (set-set fresh t t l)
      (cases (eqb u t)
      (λ q.
      let is = eqb-true u t q in
      let own : l ≡ t = e ∙ ap (λ (k : ℕ). get_or (set fresh t t) k 0) is ∙ get_or-set_same fresh t t 0 h in
      rw own (classed-put fresh t t h old (omega arith) (agrees-self T labels (type_key t)) (λ v lt a. clash a (fit.none is v lt))))
      (λ q.
      let not = eqb-false u t q in
      let lt : u < t = before u t fit.most not in
      let got : l ≡ get_or fresh u 0 = e ∙ get_or-set_other fresh t u t 0 not in
      let fits = fit.found lt in
      let low = old.low u lt in
      rw got (classed-put fresh t (get_or fresh u 0) h old (omega arith) (agrees-trans T labels (type_key (get_or fresh u 0)) (type_key u) (type_key t) (old.agree u lt) fits)
      (λ v lv a. old.same v u lv lt (agrees-trans T labels (type_key v) (type_key t) (type_key u) a (agrees-turn T labels (type_key u) (type_key t) fits))))))
    where
      before : (u t : ℕ) → u ≤ t → (u ≡ t → ⊥) → u < t
      before u t l n = omega arith

-- ---- what a round leaves

module _ (T : Table) (labels fresh : Words) where
  pub round-coarse : Sound T → Coarse T labels → Classed T labels fresh (size T) → Coarse T fresh
  round-coarse sound coarse classed = record {
    low = classed.low;
    kept = λ t u h k e. classed.same t u h k (identical-agrees T labels sound coarse t u h k e);
  }

  -- the label of the fresh label is the label
  label_kept : Classed T labels fresh (size T) → (t : ℕ) → t < size T → get_or labels (get_or fresh t 0) 0 ≡ get_or labels t 0
  label_kept classed t h = (agrees-split T labels (type_key (get_or fresh t 0)) (type_key t) (classed.agree t h)).0

  pub round-grows : Coarse T labels → Classed T labels fresh (size T) → (t : ℕ) → t < size T → get_or labels t 0 ≤ get_or fresh t 0
  round-grows coarse classed t h =
      let most = classed.low t h in
      let low = coarse.low (get_or fresh t 0) (omega arith) in
      omega (arith, label_kept classed t h)

-- ---- the first of all types that passes a test

head-append : (d : TypeKey) (l m : List TypeKey) → head_or d (l ++ m) ≡ head_or (head_or d m) l
head-append d [] m = refl
head-append d (x ∷ l) m = refl

first-kept : (p : TypeKey → Bool) (u n : ℕ) (d : TypeKey) → u < n → p (type_key u) ≡ true → ((v : ℕ) → v < u → p (type_key v) ≡ false) → head_or d (keep p (map type_key (up_to n))) ≡ type_key u
first-kept p u zero d h e none = absurd (omega arith)
first-kept p u (suc n) d h e none =
    rw (each_more type_key n, keep_append p (map type_key (up_to n)) (type_key n ∷ []), head-append d (keep p (map type_key (up_to n))) (keep p (type_key n ∷ [])))
    (elim (dec_lt u n) [
      | yes lt ↦ first-kept p u n (head_or d (keep p (type_key n ∷ []))) lt e none
      | no ge ↦
          let is : u ≡ n = omega arith in
          let nothing : keep p (map type_key (up_to n)) ≡ [] =
          keep-none p (map type_key (up_to n))
          (any_none p (map type_key (up_to n)) (λ x i. let r = In-map type_key (up_to n) x i in rw r.2 (none r.0 (omega (arith, up_to-below n r.0 r.1))))) in
          let passes : p (type_key n) ≡ true = rw is at e in
          rw (nothing, passes, is)
    ])

-- ---- what no round changes

module _ (T : Table) (labels fresh : Words) (sound : Sound T) (coarse : Coarse T labels) (classed : Classed T labels fresh (size T))
    (stable : (t : ℕ) → t < size T → get_or fresh t 0 ≡ get_or labels t 0) where
  one_label : (t u : ℕ) → t < size T → u < size T → get_or labels t 0 ≡ get_or labels u 0 → agrees T labels (type_key t) (type_key u) ≡ true
  one_label t u h k e =
      let f : get_or fresh t 0 ≡ get_or fresh u 0 = stable t h ∙ e ∙ sym (stable u k) in
      let a : agrees T labels (type_key (get_or fresh u 0)) (type_key t) ≡ true = rw f at (classed.agree t h) in
      agrees-trans T labels (type_key t) (type_key (get_or fresh u 0)) (type_key u) (agrees-turn T labels (type_key (get_or fresh u 0)) (type_key t) a) (classed.agree u k)

  abbrev R : TypeKey → TypeKey → Bool
  R x y = ltb x.0 (size T) && ltb y.0 (size T) && same_label labels x y

  closed : (x y : TypeKey) → R x y ≡ true → Agree T R x y
  closed x y e =
      let both = ltb x.0 (size T) && ltb y.0 (size T) in
      let in_both = and_l both (same_label labels x y) e in
      let hx = ltb-true x.0 (size T) (and_l (ltb x.0 (size T)) (ltb y.0 (size T)) in_both) in
      let hy = ltb-true y.0 (size T) (and_r (ltb x.0 (size T)) (ltb y.0 (size T)) in_both) in
      agree-map T (same_label labels) R x y
      (λ a b i j f. and_i (and_i (lt-ltb a.0 (size T) (part-in T sound x a i)) (lt-ltb b.0 (size T) (part-in T sound y b j))) f)
      (agrees-split T labels x y (one_label x.0 y.0 hx hy (label_eq labels x y (and_r both (same_label labels x y) e)))).1

  one_class : (t u : ℕ) → t < size T → u < size T → get_or labels t 0 ≡ get_or labels u 0 → identical T (type_key t) (type_key u) ≡ true
  one_class t u h k e = identical-largest T sound R closed (type_key t) (type_key u) (and_i (and_i (lt-ltb t (size T) h) (lt-ltb u (size T) k)) (eq-label labels (type_key t) (type_key u) e))

  -- THE LABELS ARE THE LEAST TWINS
  pub settled : (t : ℕ) → t < size T → get_or labels t 0 ≡ (least T (type_key t)).0
  unfolding least
  settled t h =
      let u = get_or labels t 0 in
      let low = coarse.low t h in
      let own : get_or labels u 0 ≡ u = ap (λ (k : ℕ). get_or labels k 0) (sym (stable t h)) ∙ label_kept T labels fresh classed t h in
      sym (ap (λ (k : TypeKey). k.0) (first-kept (λ (x : TypeKey). identical T x (type_key t)) u (size T) (type_key t) (omega arith) (one_class u t (omega arith) h own)
      (λ v lt. false_of (identical T (type_key v) (type_key t)) (λ e. omega (arith, coarse.kept v t (omega arith) h e, coarse.low v (omega arith))))))
