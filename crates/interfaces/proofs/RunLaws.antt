-- Methods arranged by id and number make runs (`Arranged`, `runs`), so their reading is the full list.
use mathlib.Core.Path.{◌≡◌, refl, sym, ap, ◌∙◌, subst}
use mathlib.Core.Bool.{Bool, true, false}
use mathlib.Core.List.{List, [], ◌∷◌, ◌++◌, cons≢nil}
use native.Mathlib.Omega.{arith}
use mathlib.Core.Logic.{inl, inr}
use Rattle.objects.specs.Lists.{head_or, flat, In, Sorted}
use Rattle.objects.specs.declared.TypeKey.{TypeKey}
use Rattle.objects.proofs.ListLaws.{cases, clash, either, In-flat, flat-In-to, flat_map}
use Rattle.objects.proofs.BoolLaws.{false_of}
use Rattle.objects.proofs.SortedLaws.{sorted-same}
use Rattle.text.proofs.ByteLaws.{below-trans}
use Rattle.rules.specs.Members.{id_bytes, same_id}
use Rattle.rules.proofs.MemberLaws.{same_id-true, same_id-eq}
use Rattle.rules.proofs.MethodNames.{Lower}
use Rattle.rules.proofs.AscendLaws.{lower-apart}
use Rattle.interfaces.specs.Interfaces.{Interfaces, Tells}
use Rattle.interfaces.specs.FullList.{Entry, identity_at, of_identity, names, full_list}
use Rattle.interfaces.specs.Runs.{Earlier, Somewhere, LowerAt, RunLower, RunsOf, Before, Arranged, arranged, joined, runs, Runs, Changes, Parted, read_list}
use Rattle.interfaces.proofs.Fit.{Fit}
use Rattle.interfaces.proofs.Lists.{sorted-flat, sorted-weaker}
use Rattle.interfaces.proofs.RunSteps.{runs_none, runs_same, runs-insert}
use Rattle.interfaces.proofs.FullLaws.{blocks, block_runs, read-full}

module _ (I : Interfaces) where
  -- the list l in runs, none of them empty
  record Grouped (l : List Entry) (rs : List (List Entry)) : Type 0 where
    runs : RunsOf I (λ x. In x l) rs
    full : (r : List Entry) → In r rs → r ≡ [] → ⊥

  -- one more before all, of a lesser id
  ahead : (x : Entry) (l : List Entry) (rs : List (List Entry)) → ((z : Entry) → In z l → LowerAt I x z) → Grouped l rs → Grouped (x ∷ l) ((x ∷ []) ∷ rs)
  ahead x l rs low g = record {
    runs =
        runs_same I ((x ∷ []) ∷ rs) (λ y. (λ h. either h (λ i. inr i) (λ e. inl e), λ h. either h (λ e. inr e) (λ i. inl i)))
        (runs-insert I (λ y. In y l) x [] rs g.runs (λ s y h. absurd h) (λ s y h i. low y ((g.runs.every y).0 (s, h, i))));
    full = λ s h f. either h (λ q. cons≢nil (sym q ∙ f)) (λ k. g.full s k f);
  }

  -- one more before a run
  module _ (x : Entry) (l : List Entry) (y : Entry) (r : List Entry) (rs : List (List Entry)) (before : (z : Entry) → In z l → Before I x z) (g : Grouped l ((y ∷ r) ∷ rs)) where
    in-first : (z : Entry) → In z (y ∷ r) → In z l
    in-first z i = (g.runs.every z).0 (y ∷ r, inl refl, i)

    as_first : (z : Entry) → In z (y ∷ r) → identity_at I y ≡ identity_at I z
    as_first z i = g.runs.one (y ∷ r) y z (inl refl) (inl refl) i

    -- x of the identity of that run
    into : identity_at I x ≡ identity_at I y → Grouped (x ∷ l) ((x ∷ y ∷ r) ∷ rs)
    into e = record {
      runs = record {
        apart = (λ s h z w i j. below s h z w i j, g.runs.apart.1);
        one = λ s z w h i j. either h
            (λ q. sym (like z (subst (λ m. In z m) q i)) ∙ like w (subst (λ m. In w m) q j))
            (λ k. g.runs.one s z w (inr k) i j);
        rising = λ s h. either h (λ q. subst (Sorted Earlier) (sym q) (earlier, g.runs.rising (y ∷ r) (inl refl))) (λ k. g.runs.rising s (inr k));
        every = λ z. (λ h. back z h, λ i. either i (λ q. (x ∷ y ∷ r, inl refl, inl q)) (λ j. found z ((g.runs.every z).1 j)));
      };
      full = λ s h f. either h (λ q. cons≢nil (sym q ∙ f)) (λ k. g.full s (inr k) f);
    }
      where
        like : (z : Entry) → In z (x ∷ y ∷ r) → identity_at I y ≡ identity_at I z
        like z (inl q) = sym e ∙ ap (identity_at I) (sym q)
        like z (inr i) = as_first z i

        below : (s : List Entry) → In s rs → RunLower I (x ∷ y ∷ r) s
        below s h z w i j = subst (λ a. Lower a (identity_at I w)) (like z i) (g.runs.apart.0 s h y w (inl refl) j)

        earlier : (z : Entry) → In z (y ∷ r) → Earlier x z
        earlier z i = either (before z (in-first z i)) (λ h. absurd (lower-apart I.table x.method z.method (e ∙ as_first z i) h)) (λ h. h.1)

        found : (z : Entry) → Somewhere ((y ∷ r) ∷ rs) z → Somewhere ((x ∷ y ∷ r) ∷ rs) z
        found z h = either h.1 (λ q. (x ∷ y ∷ r, inl refl, inr (subst (λ m. In z m) q h.2))) (λ k. (h.0, inr k, h.2))

        back : (z : Entry) → Somewhere ((x ∷ y ∷ r) ∷ rs) z → In z (x ∷ l)
        back z h = either h.1
            (λ q. let i : In z (x ∷ y ∷ r) = subst (λ m. In z m) q h.2 in either i (λ p. inl p) (λ j. inr (in-first z j)))
            (λ k. inr ((g.runs.every z).0 (h.0, inr k, h.2)))

    -- x of another identity
    new : same_id (identity_at I x) (identity_at I y) ≡ false → Grouped (x ∷ l) ((x ∷ []) ∷ (y ∷ r) ∷ rs)
    new e = ahead x l ((y ∷ r) ∷ rs) (λ w i. lower w ((g.runs.every w).1 i)) g
      where
        first : LowerAt I x y
        first = either (before y (in-first y (inl refl))) (λ h. h) (λ h. clash (same_id-eq (identity_at I x) (identity_at I y) h.0) e)

        lower : (w : Entry) → Somewhere ((y ∷ r) ∷ rs) w → LowerAt I x w
        lower w h = either h.1
            (λ q. subst (λ a. Lower (identity_at I x) a) (as_first w (subst (λ m. In w m) q h.2)) first)
            (λ k. below-trans (id_bytes (identity_at I x)) (id_bytes (identity_at I y)) (id_bytes (identity_at I w)) first (g.runs.apart.0 h.0 k y w (inl refl) h.2))

  join : (x : Entry) (l : List Entry) (rs : List (List Entry)) → ((z : Entry) → In z l → Before I x z) → Grouped l rs → Grouped (x ∷ l) (joined I x rs)
  join x l [] before g = ahead x l [] (λ y i. absurd ((g.runs.every y).1 i).1) g
  join x l ([] ∷ rs) before g = absurd (g.full [] (inl refl) refl)
  join x l ((y ∷ r) ∷ rs) before g =
      cases (same_id (identity_at I x) (identity_at I y))
      (λ e. rw e (into x l y r rs before g (same_id-true (identity_at I x) (identity_at I y) e)))
      (λ e. rw e (new x l y r rs before g e))

  grouped : (l : List Entry) → Sorted (Before I) l → Grouped l (runs I l)
  grouped [] s = record { runs = runs_none I; full = λ r h. absurd h }
  grouped (x ∷ l) s = join x l (runs I l) s.0 (grouped l s.1)

  -- ARRANGED METHODS STAND IN RUNS
  pub arranged-runs : (l : List Entry) → Arranged I l → Runs I (runs I l)
  arranged-runs l k = runs_same I (runs I l) k.every (grouped l k.sorted).runs

  -- THE READING OF ARRANGED METHODS IS THE FULL LIST
  pub read-arranged : Fit I → (t : TypeKey) → I.iface (I.under t) ≡ true → (reached : TypeKey → Bool) → Tells I (I.under t) reached → (l : List Entry) → Arranged I l
      → read_list (I.under t) reached (runs I l) ≡ full_list I t
  read-arranged fit t face reached tells l k = read-full I fit t face reached tells (runs I l) (arranged-runs l k)

  -- ---- run marks

  part-new : (x : Entry) (l : List Entry) (rs : List (List Entry)) → runs I l ≡ rs → ((r : List Entry) → In r rs → r ≡ [] → ⊥)
      → ((y : Entry) (s : List Entry) (ss : List (List Entry)) → rs ≡ (y ∷ s) ∷ ss → identity_at I x ≡ identity_at I y → ⊥) → runs I (x ∷ l) ≡ (x ∷ []) ∷ rs
  part-new x l [] e full other = rw e
  part-new x l ([] ∷ rs) e full other = absurd (full [] (inl refl) refl)
  part-new x l ((y ∷ s) ∷ rs) e full other =
      rw (e, false_of (same_id (identity_at I x) (identity_at I y)) (λ q. other y s rs refl (same_id-true (identity_at I x) (identity_at I y) q)))

  part-run : (r l : List Entry) (rs : List (List Entry)) → runs I l ≡ rs → ((s : List Entry) → In s rs → s ≡ [] → ⊥)
      → ((x y : Entry) → In x r → In y r → identity_at I x ≡ identity_at I y)
      → ((x y : Entry) (s : List Entry) (ss : List (List Entry)) → In x r → rs ≡ (y ∷ s) ∷ ss → identity_at I x ≡ identity_at I y → ⊥) → (r ≡ [] → ⊥) → runs I (r ++ l) ≡ r ∷ rs
  part-run [] l rs e full one other some = absurd (some refl)
  part-run (x ∷ []) l rs e full one other some = part-new x l rs e full (λ y s ss q. other x y s ss (inl refl) q)
  part-run (x ∷ z ∷ r) l rs e full one other some =
      rw (part-run (z ∷ r) l rs e full (λ a b i j. one a b (inr i) (inr j)) (λ a y s ss i. other a y s ss (inr i)) cons≢nil, same_id-eq (identity_at I x) (identity_at I z) (one x z (inl refl) (inr (inl refl))))

  first-differs : (r : List Entry) (rs : List (List Entry)) → Changes I (r ∷ rs) → (x y : Entry) (s : List Entry) (ss : List (List Entry)) → In x r → rs ≡ (y ∷ s) ∷ ss → identity_at I x ≡ identity_at I y → ⊥
  first-differs r [] c x y s ss i e = absurd (cons≢nil (sym e))
  first-differs r (a ∷ rs) c x y s ss i e = c.0 x y i (subst (λ l. In y l) (sym (ap (head_or a) e)) (inl refl))

  changes-on : (r : List Entry) (rs : List (List Entry)) → Changes I (r ∷ rs) → Changes I rs
  changes-on r [] c = tt
  changes-on r (s ∷ rs) c = c.1

  -- A LIST PARTED WHERE THE IDENTITY CHANGES IS IN ITS RUNS
  pub parted-runs : (rs : List (List Entry)) → Parted I rs → runs I (flat (λ r. r) rs) ≡ rs
  parted-runs [] p = refl
  parted-runs (r ∷ rs) p =
      part-run r (flat (λ s. s) rs) rs
      (parted-runs rs (record { full = λ s h. p.full s (inr h); one = λ s x y h. p.one s x y (inr h); changes = changes-on r rs p.changes }))
      (λ s h. p.full s (inr h)) (λ x y. p.one r x y (inl refl)) (first-differs r rs p.changes) (p.full r (inl refl))

  -- ---- the arranged methods

  within : (r : List Entry) → ((x y : Entry) → In x r → In y r → identity_at I x ≡ identity_at I y) → Sorted Earlier r → Sorted (Before I) r
  within [] one s = tt
  within (x ∷ r) one s = (λ y i. inr (one x y (inl refl) (inr i), s.0 y i), within r (λ a b i j. one a b (inr i) (inr j)) s.1)

  -- runs one after the other are arranged
  pub runs-arranged : (rs : List (List Entry)) → Runs I rs → Arranged I (flat (λ r. r) rs)
  runs-arranged rs k = record {
    sorted = sorted-flat (Before I) (λ r. r) rs (sorted-weaker (RunLower I) (λ r s. (x y : Entry) → In x r → In y s → Before I x y) (λ r s h x y i j. inl (h x y i j)) rs k.apart) (λ r h. within r (λ x y. k.one r x y h) (k.rising r h));
    every = λ x. (λ h. (k.every x).0 (In-flat (λ r. r) rs x h), λ o. let s = (k.every x).1 o in flat-In-to (λ r. r) rs s.0 x s.1 s.2);
  }

  pub arranged_is : Fit I → Arranged I (arranged I)
  unfolding arranged
  arranged_is fit = subst (Arranged I) (flat_map (λ r. r) (of_identity I) (names I)) (runs-arranged (blocks I fit) (block_runs I fit))

  before-irrefl : (x : Entry) → Before I x x → ⊥
  before-irrefl x (inl h) = lower-apart I.table x.method x.method refl h
  before-irrefl x (inr h) = let l = h.1 in omega (arith, l)

  before-trans : (x y z : Entry) → Before I x y → Before I y z → Before I x z
  before-trans x y z (inl h) (inl k) = inl (below-trans (id_bytes (identity_at I x)) (id_bytes (identity_at I y)) (id_bytes (identity_at I z)) h k)
  before-trans x y z (inl h) (inr k) = inl (subst (λ a. Lower (identity_at I x) a) k.0 h)
  before-trans x y z (inr h) (inl k) = inl (subst (λ a. Lower a (identity_at I z)) (sym h.0) k)
  before-trans x y z (inr h) (inr k) = let a = h.1 in let b = k.1 in inr (h.0 ∙ k.0, omega (arith, a, b))

  -- THERE IS ONE ARRANGED LIST, whatever made it
  pub arranged-one : (l m : List Entry) → Arranged I l → Arranged I m → l ≡ m
  arranged-one l m a b =
      sorted-same (Before I) before-irrefl before-trans l m a.sorted b.sorted (λ x h. (b.every x).1 ((a.every x).0 h)) (λ x h. (a.every x).1 ((b.every x).0 h))
