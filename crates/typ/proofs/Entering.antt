-- Two types that only their parts may tell apart come up: they are joined to one class, their pair is met, or both.
use mathlib.Core.Path.{◌≡◌, refl, sym, ◌∙◌}
use mathlib.Core.Bool.{Bool, true, false}
use mathlib.Core.List.{List}
use mathlib.Core.Logic.{◌⊎◌, inl, inr, ◌≢◌}
use Prim.Native.Nat.{ℕ, suc, ◌/◌, ◌<◌}
use native.Mathlib.Nat.{le_trans}
use lib.Dec.{eqb}
use lib.ListN.{length}
use borrow.Author.Tests.{eqb-true, eqb-false}
use Rattle.objects.specs.declared.TypeKey.{TypeKey}
use Rattle.objects.specs.Table.{Table, size}
use Rattle.objects.proofs.ListLaws.{cases, clash, either}
use Rattle.rules.specs.StepIdentity.{same_in}
use Rattle.rules.proofs.StepLaws.{same_turn, same-trans}
use Rattle.pair_marks.specs.Marks.{met, meet}
use Rattle.pair_marks.specs.Classes.{Rooted, Joined}
use Rattle.pair_marks.specs.Pairs.{pair}
use Rattle.typ.specs.Compared.{Well, AllMet, AllOne, Agree, NewMet, Merged, Leads, Compared, PartsCompared}
use Rattle.pair_marks.proofs.Bits.{met-other}
use Rattle.pair_marks.proofs.PairLaws.{pair_one}
use Rattle.typ.proofs.Marked.{grown-refl, grown-trans, grown-meet, merged-trans, new_none, new-more, leads-more}

-- the labels stay, or the classes of x and y become one
abbrev pub Linked : List ℕ → List ℕ → TypeKey → TypeKey → Type 0
Linked c c' x y = (c' ≡ c) ⊎ Joined c c' x y

module _ (T : Table) (x y : TypeKey) (hx : x.0 < size T) (hy : y.0 < size T) where
  -- ---- classes

  module _ (c c' : List ℕ) (r : Rooted (size T) c) where
    in_c : (a : TypeKey) → a.0 < size T → a.0 < length c
    in_c a h = le_trans h r.long

    merged-joined : Joined c c' x y → Merged T c c'
    unfolding Merged
    merged-joined j a b ha hb o = j.kept a b (in_c a ha) (in_c b hb) o

    -- what was of one class still is; else x and y are between the two
    one-joined : (n : ℕ) → same_in T n x y ≡ true → Joined c c' x y → AllOne T n c → AllOne T n c'
    unfolding AllOne
    one-joined n xy j s a b ha hb o =
        either (j.only a b (in_c a ha) (in_c b hb) o)
        (λ p. s a b ha hb p)
        (λ q. either q
        (λ p. same-trans T n a x b (s a x ha hx p.0) (same-trans T n x y b xy (s y b hy hb p.1)))
        (λ p. same-trans T n a y b (s a y ha hy p.0) (same-trans T n y x b (same_turn T n x y xy) (s x b hx hb p.1))))

    rooted-linked : Linked c c' x y → Rooted (size T) c'
    rooted-linked k = either k (λ e. rw e r) (λ j. j.rooted (size T) hx hy r)

    merged-linked : Linked c c' x y → Merged T c c'
    unfolding Merged
    merged-linked k = either k (λ e. rw e (λ a b ha hb o. o)) merged-joined

    one-linked : (n : ℕ) → same_in T n x y ≡ true → Linked c c' x y → AllOne T n c → AllOne T n c'
    one-linked n xy k s = either k (λ e. rw e s) (λ j. one-joined n xy j s)

  -- ---- they are joined alone: put off

  pub went-off : (l c c' : List ℕ) → Well T l c → same_in T 1 x y ≡ true → Joined c c' x y → Compared T l l c c' x y true
  unfolding AllOne Leads
  went-off l c c' w one j = record {
    grown = grown-refl l;
    merged = merged-joined c c' w.rooted j;
    well = record { rooted = j.rooted (size T) hx hy w.rooted; agree = (w.agree.0, one-joined c c' w.rooted 1 one j w.agree.1) };
    leads = λ s a n. ((a n).0, one-joined c c' w.rooted n (s n) j (a n).1);
    same_if = λ _ n a. (a.1 x y hx hy j.one, new_none T n l);
    differ-if = λ q. clash refl q;
  }

  -- ---- their pair is met

  module _ (d : x.0 ≢ y.0) (l : List ℕ) (in-l : pair x y / 32 < length l) (u : met l (pair x y) ≡ false) where
    -- a pair that is met now was met before, or is theirs
    now-met : (n : ℕ) (a b : TypeKey) → a.0 ≢ b.0 → met (meet l (pair x y)) (pair a b) ≡ true → same_in T n x y ≡ true → (met l (pair a b) ≡ true) ⊎ (same_in T n a b ≡ true)
    now-met n a b f e s =
        cases (eqb (pair a b) (pair x y))
        (λ q. inr (either (pair_one a b x y f d (eqb-true (pair a b) (pair x y) q)) (λ z. rw (z.0, z.1) s) (λ z. rw (z.0, z.1) (same_turn T n x y s))))
        (λ q. inl (sym (met-other l (pair x y) (pair a b) (eqb-false (pair a b) (pair x y) q) in-l u) ∙ e))

    all_meet : (n : ℕ) → same_in T n x y ≡ true → AllMet T n l → AllMet T n (meet l (pair x y))
    unfolding AllMet
    all_meet n s h a b ha hb f e = either (now-met n a b f e s) (λ q. h a b ha hb f q) (λ q. q)

    new-meet : (n : ℕ) → same_in T (suc n) x y ≡ true → NewMet T n l (meet l (pair x y))
    unfolding NewMet
    new-meet n s a b ha hb f v e = either (now-met (suc n) a b f e s) (λ q. clash q v) (λ q. q)

    module _ (c c' : List ℕ) (w : Well T l c) (k : Linked c c' x y) where
      agree-open : (n : ℕ) → same_in T n x y ≡ true → Agree T n l c → Agree T n (meet l (pair x y)) c'
      agree-open n s a = (all_meet n s a.0, one-linked c c' w.rooted n s k a.1)

      pub well-open : same_in T 1 x y ≡ true → Well T (meet l (pair x y)) c'
      well-open one = record { rooted = rooted-linked c c' w.rooted k; agree = agree-open 1 one w.agree }

      leads-open : Leads T l (meet l (pair x y)) c c' x y
      unfolding Leads
      leads-open s a n = agree-open n (s n) (a n)

      -- and their parts are compared
      pub went-open : (l' c'' : List ℕ) (r : Bool) → PartsCompared T (meet l (pair x y)) l' c' c'' x y r → PartsCompared T l l' c c'' x y r
      went-open l' c'' r p = record {
        grown = grown-trans (grown-meet l (pair x y) in-l u) p.grown;
        merged = merged-trans T c c' c'' (merged-linked c c' w.rooted k) p.merged;
        well = p.well;
        leads = leads-more T l (meet l (pair x y)) l' c c' c'' x y x y (λ s. s) leads-open p.leads;
        same_if = λ q n a. let h = p.same_if q n a in (h.0, new-more T n l (meet l (pair x y)) l' (new-meet n h.0) h.1);
        differ-if = p.differ-if;
      }
