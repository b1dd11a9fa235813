-- The types whose classes were not looked into are compared with the type that their label names, round after round; and the answer.
use mathlib.Core.Path.{◌≡◌, refl, sym, ◌∙◌}
use mathlib.Core.Bool.{Bool, true, false, not}
use mathlib.Core.List.{List}
use mathlib.Core.Logic.{inl, inr, ◌≢◌}
use Prim.Native.Nat.{ℕ, zero, suc, ◌+◌, ◌/◌, ◌<◌, ◌≤◌}
use native.Mathlib.Omega.{arith}
use native.Mathlib.Nat.{le_trans}
use lib.Dec.{eqb}
use lib.ListN.{length, get_or}
use borrow.Author.Count.{below_more}
use borrow.Author.Tests.{eqb-true, eqb-false, not-false}
use Rattle.objects.specs.declared.TypeKey.{TypeKey}
use Rattle.objects.specs.Table.{Table, size, type_key}
use Rattle.objects.proofs.ListLaws.{cases, clash, either}
use Rattle.objects.proofs.BoolLaws.{false_of}
use Rattle.objects.proofs.KeyLaws.{key-eq}
use Rattle.rules.specs.Identity.{identical}
use Rattle.rules.specs.StepIdentity.{same_in}
use Rattle.rules.specs.Sound.{Sound}
use Rattle.rules.proofs.StepLaws.{same-zero, same-less, same_self, same_turn, same-trans}
use Rattle.rules.proofs.IdentityLaws.{identical-steps, identical-self}
use Rattle.type_parts.specs.Parts.{Peers}
use Rattle.pair_marks.specs.Marks.{met, meet, unmet}
use Rattle.pair_marks.specs.Classes.{OneClass, Single}
use Rattle.pair_marks.specs.Pairs.{pair}
use Rattle.typ.specs.Compared.{Clean, AllClean, Same, Well, AllMet, AllOne, Agree, Leads, PartsCompared, State, Turn}
use Rattle.typ.specs.declared.opening.Round.{Round}
use Rattle.pair_marks.proofs.Bits.{unmet-falls}
use Rattle.pair_marks.proofs.JoinLaws.{rooted-single}
use Rattle.typ.proofs.Marked.{agree_less, new-all}
use Rattle.typ.proofs.Entering.{well-open, went-open}
use Rattle.typ.proofs.Cycle.{once-match}

-- ---- no pair is met, and every type is a class of its own

module _ (T : Table) (l c : List ℕ) (u : (p : ℕ) → met l p ≡ false) (h : size T ≤ length c) (s : Single c) where
  agree-none : (n : ℕ) → Agree T n l c
  unfolding AllMet AllOne OneClass
  agree-none n = (
    λ a b ha hb d m. clash m (u (pair a b)),
    λ a b ha hb o. let z : a ≡ b = key-eq a b (sym (s a.0 (le_trans ha h)) ∙ o ∙ s b.0 (le_trans hb h)) in rw z (same_self T n b),
  )

  pub well-none : Well T l c
  well-none = record { rooted = rooted-single (size T) c h s; agree = agree-none 1 }

  -- the parts of x and y have been compared
  pub begun : (x y : TypeKey) (l' c' : List ℕ) (r : Bool) → PartsCompared T l l' c c' x y r → not r ≡ false → State T l' c' x y
  unfolding Leads
  begun x y l' c' r w e = record {
    well = w.well;
    same_if = λ n a. let k = w.same_if (not-false r e) n a in (same-less T n x y k.0, new-all T n l l' (agree-none (suc n)).0 k.1);
    leads = λ k. w.leads k agree-none;
  }

module _ (T : Table) (x y : TypeKey) where
  -- ---- how a turn ends

  module _ (C : Type 0) (l l' c c' : List ℕ) where
    pub turn-differ : (Same T x y → ⊥) → Turn T C l l' c c' x y Round.Apart
    turn-differ d = record { if-apart = λ _. d; if-settled = λ z. absurd (cc); if-opened = λ z. absurd (cc) }

    turn-opened : unmet l' < unmet l → State T l' c' x y → Turn T C l l' c c' x y Round.Opened
    turn-opened h s = record { if-apart = λ z. absurd (cc); if-settled = λ z. absurd (cc); if-opened = λ _. (h, s) }

  turn-clean : (C : Type 0) (l c : List ℕ) → C → Turn T C l l c c x y Round.Settled
  turn-clean C l c h = record { if-apart = λ z. absurd (cc); if-settled = λ _. (refl, refl, h); if-opened = λ z. absurd (cc) }

  -- ---- the type numbered i

  module _ (l c : List ℕ) (i : ℕ) (s : State T l c x y) (hi : i < size T) where
    pub skip-own : get_or c i 0 ≡ i → Turn T (Clean l c i) l l c c x y Round.Settled
    unfolding Clean
    skip-own e = turn-clean (Clean l c i) l c (inl e)

    -- the type that its label names, and the pair of the two
    abbrev root : TypeKey
    root = type_key (get_or c i 0)

    abbrev this : TypeKey
    this = type_key i

    pub skip-met : (p : ℕ) → p ≡ pair root this → (r : Bool) → r ≡ met l p → r ≡ true → Turn T (Clean l c i) l l c c x y Round.Settled
    unfolding Clean
    skip-met p z r e h = turn-clean (Clean l c i) l c (inr (rw z at (sym e ∙ h)))

    in_size : root.0 < size T
    in_size = s.well.rooted.small i hi

    -- the two are of one class
    agree-root : (n : ℕ) → Agree T n l c → same_in T n root this ≡ true
    unfolding AllOne OneClass
    agree-root n a = a.1 root this in_size hi (s.well.rooted.own i hi)

    once : same_in T 1 root this ≡ true
    once = agree-root 1 s.well.agree

    pub root-peers : Peers T root this
    root-peers = record { left = in_size; right = hi; alike = once-match T root this once }

    root-same : Same T x y → Same T root this
    root-same k n = agree-root n (s.leads k n)

    -- their pair is met
    module _ (d : get_or c i 0 ≢ i) (p : ℕ) (z : p ≡ pair root this) (in-l : p / 32 < length l) (r : Bool) (e : r ≡ met l p) (f : r ≡ false) (o : List ℕ) (m : o ≡ meet l p) where
      in-l' : pair root this / 32 < length l
      in-l' = rw z at in-l

      off : met l (pair root this) ≡ false
      off = rw z at (sym e ∙ f)

      marked : o ≡ meet l (pair root this)
      marked = rw z at m

      pub open-well : Well T o c
      open-well = rw marked (well-open T root this in_size hi d l in-l' off c c s.well (inl refl) once)

      module _ (l' c' : List ℕ) (b : Bool) (w : PartsCompared T o l' c c' root this b) where
        went : PartsCompared T (meet l (pair root this)) l' c c' root this b
        went = rw marked at w

        went-all : PartsCompared T l l' c c' root this b
        went-all = went-open T root this in_size hi d l in-l' off c c s.well (inl refl) l' c' b went

        falls : unmet l' < unmet l
        falls = omega (arith, unmet-falls l (pair root this) in-l' off, went.grown.fewer)

        state : b ≡ true → State T l' c' x y
        unfolding Leads
        state q = record {
          well = w.well;
          same_if = λ n a.
              let old = s.same_if n (agree_less T n l l' c c' went-all.grown went-all.merged a) in
              (old.0, new-all T n l l' old.1 (went-all.same_if q n a).1);
          leads = λ k. went-all.leads (root-same k) (s.leads k);
        }

        pub open-same : b ≡ true → Turn T (Clean l c i) l l' c c' x y Round.Opened
        open-same q = turn-opened (Clean l c i) l l' c c' falls (state q)

        pub open-differ : b ≡ false → Turn T (Clean l c i) l l' c c' x y Round.Apart
        open-differ q = turn-differ (Clean l c i) l l' c c' (λ k. w.differ-if q (root-same k))

  -- ---- the types in turn

  -- the first i have been seen to, and no pair of one class differs: f says whether one was put off
  pub record Turns (l l' c c' : List ℕ) (i : ℕ) (f : Round) : Type 0 where
    pub state : State T l' c' x y
    pub some : f ≡ Round.Apart → ⊥
    pub turn : Turn T ((k : ℕ) → k < i → Clean l c k) l l' c c' x y f

  pub turns-none : (l c : List ℕ) → State T l c x y → Turns l l c c 0 Round.Settled
  turns-none l c s = record { state = s; some = λ z. absurd (cc); turn = turn-clean _ l c (λ k h. absurd (omega arith)) }

  module _ (l m c d : List ℕ) (i : ℕ) where
    fewer : (f : Round) → Turns l m c d i f → unmet m ≤ unmet l
    fewer Round.Apart t = absurd (t.some refl)
    fewer Round.Settled t = rw (t.turn.if-settled refl).0 (omega arith)
    fewer Round.Opened t = omega (arith, (t.turn.if-opened refl).0)

    module _ (f : Round) (t : Turns l m c d i f) (l' c' : List ℕ) where
      -- a pair that was put off is met
      pub turns-opened : (r : Round) → Turn T (Clean m d i) m l' d c' x y r → r ≡ Round.Opened → Turns l l' c c' (i + 1) Round.Opened
      turns-opened r u e =
          let o = u.if-opened e in
          record { state = o.1; some = λ z. absurd (cc); turn = turn-opened _ l l' c c' (omega (arith, fewer f t, o.0)) o.1 }

      -- there was none
      pub turns-settled : (r : Round) → Turn T (Clean m d i) m l' d c' x y r → r ≡ Round.Settled → Turns l l' c c' (i + 1) f
      turns-settled r u e =
          let o = u.if-settled e in
          rw (o.0, o.1) (record {
            state = t.state;
            some = t.some;
            turn = record {
              if-apart = t.turn.if-apart;
              if-settled = λ z. let k = t.turn.if-settled z in (k.0, k.1, below_more (λ (j : ℕ). Clean l c j) i k.2 (rw (k.0, k.1) at o.2));
              if-opened = t.turn.if-opened;
            };
          })

    -- all have been
    pub turns-all : (f : Round) → Turns l m c d i f → size T ≤ i → Turn T (AllClean T l c) l m c d x y f
    turns-all f t h = record {
      if-apart = t.turn.if-apart;
      if-settled = λ z. let k = t.turn.if-settled z in (k.0, k.1, λ j lt. k.2 j (le_trans lt h));
      if-opened = t.turn.if-opened;
    }

  -- ---- the answers

  pub selfsame : Sound T → x.0 ≡ y.0 → true ≡ identical T x y
  selfsame s e = let z : x ≡ y = key-eq x y e in rw z (sym (identical-self T s y))

  pub differed : Sound T → (Same T x y → ⊥) → false ≡ identical T x y
  differed s d = sym (false_of (identical T x y) (λ e. d ((identical-steps T s x y).0 e)))

  module _ (l c : List ℕ) (s : State T l c x y) (w : AllClean T l c) where
    -- a type agrees with the one that its label names wherever all pairs met agree
    named-same : (n : ℕ) → AllMet T n l → (a : TypeKey) → a.0 < size T → same_in T n (type_key (get_or c a.0 0)) a ≡ true
    unfolding AllMet Clean
    named-same n h a ha =
        cases (eqb (get_or c a.0 0) a.0)
        (λ q. let z : type_key (get_or c a.0 0) ≡ a = key-eq _ a (eqb-true _ a.0 q) in rw z (same_self T n a))
        (λ q. let d = eqb-false (get_or c a.0 0) a.0 q in either (w a.0 ha) (λ e. absurd (d e)) (λ m. h _ a (s.well.rooted.small a.0 ha) ha d m))

    -- so types of one class do
    all-agree : (n : ℕ) → Agree T n l c
    unfolding AllMet AllOne OneClass
    all-agree zero = (λ a b ha hb d m. same-zero T a b, λ a b ha hb o. same-zero T a b)
    all-agree (suc n) =
        let met-same : AllMet T (suc n) l = (s.same_if n (all-agree n)).1 in (
          met-same,
          λ a b ha hb o.
              let r = type_key (get_or c a.0 0) in
              same-trans T (suc n) a r b (same_turn T (suc n) r a (named-same (suc n) met-same a ha)) (rw o (named-same (suc n) met-same b hb)),
        )

    pub agreed : Sound T → true ≡ identical T x y
    agreed h = sym ((identical-steps T h x y).1 (λ n. (s.same_if n (all-agree n)).0))
