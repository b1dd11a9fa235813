-- Runs made one method at a time: a method joins the run of its identity at its end, or is a new run at the place of its id.
use mathlib.Core.Path.{◌≡◌, sym, ap, ◌∙◌, subst}
use mathlib.Core.List.{List, [], ◌∷◌, ◌++◌}
use mathlib.Core.Logic.{◌⊎◌, ◌↔◌, inl, inr}
use Rattle.objects.specs.Lists.{In, Sorted}
use Rattle.objects.proofs.ListLaws.{either, In-append, In-append-l, In-append-r}
use Rattle.rules.proofs.MethodNames.{Lower}
use Rattle.interfaces.specs.Interfaces.{Interfaces}
use Rattle.interfaces.specs.FullList.{Entry, identity_at}
use Rattle.interfaces.specs.Runs.{Earlier, Somewhere, LowerAt, RunLower, RunsOf}
use Rattle.interfaces.proofs.Lists.{one-In, mid-cases, mid-in, mid-here, sorted-snoc, sorted_more, sorted-other}

module _ (I : Interfaces) where
  -- no methods, no runs
  pub runs_none : RunsOf I (λ x. ⊥) []
  runs_none = record { apart = tt; one = λ r x y h. absurd h; rising = λ r h. absurd h; every = λ x. (λ h. absurd h.1, λ h. absurd h) }

  pub runs_same : {Here There : Entry → Type 0} (rs : List (List Entry)) → ((x : Entry) → Here x ↔ There x) → RunsOf I Here rs → RunsOf I There rs
  runs_same rs h k = record { apart = k.apart; one = k.one; rising = k.rising; every = λ x. (λ s. (h x).0 ((k.every x).0 s), λ t. (k.every x).1 ((h x).1 t)) }

  module _ (Here : Entry → Type 0) (x : Entry) where
    -- x beside what is here
    abbrev pub With : Entry → Type 0
    With y = Here y ⊎ (y ≡ x)

    last-cases : (r : List Entry) (y : Entry) → In y (r ++ (x ∷ [])) → In y r ⊎ (y ≡ x)
    last-cases r y h = either (In-append r (x ∷ []) y h) (λ i. inl i) (λ i. either i (λ e. inr e) (λ j. absurd j))

    -- A METHOD OF A GREATER NUMBER JOINS THE RUN OF ITS IDENTITY
    pub runs-join : (before : List (List Entry)) (r : List Entry) (after : List (List Entry)) → RunsOf I Here (before ++ (r ∷ after))
        → (z : Entry) → In z r → identity_at I z ≡ identity_at I x → ((y : Entry) → In y r → Earlier y x) → RunsOf I With (before ++ ((r ++ (x ∷ [])) ∷ after))
    runs-join before r after k z i e few = record {
      apart =
          sorted-other (RunLower I) before r r' after k.apart
          (λ s h l y w p q. either (last-cases r w q) (λ j. l y w p j) (λ f. subst (λ a. Lower (identity_at I y) a) (e ∙ ap (identity_at I) (sym f)) (l y z p i)))
          (λ s h l y w p q. either (last-cases r y p) (λ j. l y w j q) (λ f. subst (λ a. Lower a (identity_at I w)) (e ∙ ap (identity_at I) (sym f)) (l z w i q)));
      one = λ s y w h p q. either (mid-cases before r' after s h)
          (λ f. sym (as-z y (subst (λ l. In y l) f p)) ∙ as-z w (subst (λ l. In w l) f q))
          (λ o. k.one s y w (mid-in before r after s o) p q);
      rising = λ s h. either (mid-cases before r' after s h)
          (λ f. subst (Sorted Earlier) (sym f) (sorted-snoc Earlier r x (k.rising r (mid-here before r after)) few))
          (λ o. k.rising s (mid-in before r after s o));
      every = λ y. (λ h. there y h, λ h. either h (λ j. found y ((k.every y).1 j)) (λ f. (r', mid-here before r' after, In-append-r r (x ∷ []) y (inl f))));
    }
      where
        r' : List Entry
        r' = r ++ (x ∷ [])

        as-z : (y : Entry) → In y r' → identity_at I z ≡ identity_at I y
        as-z y h = either (last-cases r y h) (λ j. k.one r z y (mid-here before r after) i j) (λ f. e ∙ ap (identity_at I) (sym f))

        there : (y : Entry) → Somewhere (before ++ (r' ∷ after)) y → With y
        there y h = either (mid-cases before r' after h.0 h.1)
            (λ f. either (last-cases r y (subst (λ l. In y l) f h.2)) (λ j. inl ((k.every y).0 (r, mid-here before r after, j))) (λ g. inr g))
            (λ o. inl ((k.every y).0 (h.0, mid-in before r after h.0 o, h.2)))

        found : (y : Entry) → Somewhere (before ++ (r ∷ after)) y → Somewhere (before ++ (r' ∷ after)) y
        found y h = either (mid-cases before r after h.0 h.1)
            (λ f. (r', mid-here before r' after, In-append-l r (x ∷ []) y (subst (λ l. In y l) f h.2)))
            (λ o. (h.0, mid-in before r' after h.0 o, h.2))

    -- A METHOD OF A NEW IDENTITY IS A RUN BETWEEN THOSE OF LESSER AND OF GREATER IDS
    pub runs-insert : (before after : List (List Entry)) → RunsOf I Here (before ++ after)
        → ((s : List Entry) (y : Entry) → In s before → In y s → LowerAt I y x) → ((s : List Entry) (y : Entry) → In s after → In y s → LowerAt I x y) → RunsOf I With (before ++ ((x ∷ []) ∷ after))
    runs-insert before after k low high = record {
      apart =
          sorted_more (RunLower I) before (x ∷ []) after k.apart
          (λ s h y w p q. subst (λ a. LowerAt I y a) (sym (one-In x w q)) (low s y h p))
          (λ s h y w p q. subst (λ a. LowerAt I a w) (sym (one-In x y p)) (high s w h q));
      one = λ s y w h p q. either (mid-cases before (x ∷ []) after s h)
          (λ f. ap (identity_at I) (one-In x y (subst (λ l. In y l) f p) ∙ sym (one-In x w (subst (λ l. In w l) f q))))
          (λ o. k.one s y w (both s o) p q);
      rising = λ s h. either (mid-cases before (x ∷ []) after s h) (λ f. subst (Sorted Earlier) (sym f) (λ y j. absurd j, tt)) (λ o. k.rising s (both s o));
      every = λ y. (
        λ h. either (mid-cases before (x ∷ []) after h.0 h.1) (λ f. inr (one-In x y (subst (λ l. In y l) f h.2))) (λ o. inl ((k.every y).0 (h.0, both h.0 o, h.2))),
        λ h. either h
            (λ j. let s = (k.every y).1 j in (s.0, mid-in before (x ∷ []) after s.0 (In-append before after s.0 s.1), s.2))
            (λ f. (x ∷ [], mid-here before (x ∷ []) after, inl f)),
      );
    }
      where
        both : (s : List Entry) → In s before ⊎ In s after → In s (before ++ after)
        both s o = either o (λ i. In-append-l before after s i) (λ i. In-append-r before after s i)
