-- Two full lists side by side, run by run: they have the same identities exactly if the two interfaces reach the same runs, and then the types that
-- correspond are those of the two choices of each run.
use mathlib.Core.Path.{◌≡◌, refl, sym, ap, ◌∙◌, subst}
use mathlib.Core.Bool.{Bool, true}
use mathlib.Core.List.{List, [], ◌∷◌, map}
use mathlib.Core.Logic.{◌↔◌, inl, inr}
use Rattle.objects.specs.Lists.{flat, In}
use Rattle.objects.specs.declared.TypeKey.{TypeKey}
use Rattle.objects.specs.Table.{Member}
use Rattle.objects.proofs.ListLaws.{cases, In-map, map-In-to, In-flat, flat-In-to}
use Rattle.objects.proofs.BoolLaws.{iff-eq}
use Rattle.objects.proofs.PairLaws.{AllPairs, pairs-right, pairs-left}
use Rattle.rules.specs.Members.{identity_of}
use Rattle.rules.specs.Identity.{corresponding}
use Rattle.rules.proofs.AscendLaws.{SameIdentity}
use Rattle.interfaces.specs.Interfaces.{Interfaces}
use Rattle.interfaces.specs.FullList.{Entry, choice}
use Rattle.interfaces.specs.Runs.{OneEach, Runs, reaches_run, read_list}
use Rattle.interfaces.proofs.Picking.{choice-In, same-run}
use Rattle.interfaces.proofs.PlaceLaws.{choice-one, choice-none}

-- ---- what is read of each run

module _ (i : TypeKey) (reached : TypeKey → Bool) (self : reached i ≡ true) (rs : List (List Entry)) where
  -- a run that is reached gives one of the list
  run-gives : (r : List Entry) → In r rs → reaches_run reached r ≡ true → (x : Entry) × In x r × In x.method (read_list i reached rs)
  unfolding read_list
  run-gives r h e =
      let c = choice-one i reached self r e in
      let k : In c.0 (choice i reached r) = subst (λ l. In c.0 l) (sym c.1) (inl refl) in
      (c.0, (choice-In i reached r c.0 k).0, map-In-to (λ (x : Entry). x.method) (flat (choice i reached) rs) c.0 (flat-In-to (choice i reached) rs r c.0 h k))

  -- one of the list is of a run that is reached
  given-run : (m : Member) → In m (read_list i reached rs) → (r : List Entry) × In r rs × (x : Entry) × In x r × (m ≡ x.method) × (reaches_run reached r ≡ true)
  unfolding read_list
  given-run m h =
      let p = In-map (λ (x : Entry). x.method) (flat (choice i reached) rs) m h in
      let q = In-flat (choice i reached) rs p.0 p.1 in (
        q.0,
        q.1,
        p.0,
        (choice-In i reached q.0 p.0 q.2).0,
        p.2,
        cases (reaches_run reached q.0) (λ e. e) (λ e. absurd (subst (λ l. In p.0 l) (choice-none i reached self q.0 e) q.2)),
      )

-- ---- two interfaces

-- they reach the same runs
abbrev pub SameRuns : (a b : TypeKey → Bool) → List (List Entry) → Type 0
SameRuns a b rs = (r : List Entry) → In r rs → reaches_run a r ≡ reaches_run b r

module _ (i j : TypeKey) (a b : TypeKey → Bool) (self : a i ≡ true) (self' : b j ≡ true) where
  abbrev types_of : List Entry → List TypeKey
  types_of l = map (λ x. x.method.type) l

  -- THE TYPES THAT CORRESPOND, RUN BY RUN
  pub corresponding-runs : (rs : List (List Entry)) → SameRuns a b rs
      → corresponding (map (λ m. m.type) (read_list i a rs)) (map (λ m. m.type) (read_list j b rs)) ≡ flat (λ r. corresponding (types_of (choice i a r)) (types_of (choice j b r))) rs
  unfolding read_list
  corresponding-runs [] h = refl
  corresponding-runs (r ∷ rs) h =
      let rest = corresponding-runs rs (λ s k. h s (inr k)) in
      cases (reaches_run a r)
      (λ e.
      let c = choice-one i a self r e in
      let d = choice-one j b self' r (sym (h r (inl refl)) ∙ e) in
      rw (c.1, d.1) (ap (λ l. record { left = c.0.method.type; right = d.0.method.type } ∷ l) rest))
      (λ e. rw (choice-none i a self r e, choice-none j b self' r (sym (h r (inl refl)) ∙ e)) rest)

module _ (I : Interfaces) (i j : TypeKey) (a b : TypeKey → Bool) (self : a i ≡ true) (self' : b j ≡ true) where
  along : (rs : List (List Entry)) → OneEach I rs → SameRuns a b rs
      → AllPairs (SameIdentity I.table) (read_list i a rs) (read_list j b rs)
  unfolding read_list
  along [] one h = tt
  along (r ∷ rs) one h =
      let rest = along rs (λ s x y k. one s x y (inr k)) (λ s k. h s (inr k)) in
      cases (reaches_run a r)
      (λ e.
      let c = choice-one i a self r e in
      let d = choice-one j b self' r (sym (h r (inl refl)) ∙ e) in
      rw (c.1, d.1)
      (one r c.0 d.0 (inl refl) (choice-In i a r c.0 (subst (λ l. In c.0 l) (sym c.1) (inl refl))).0 (choice-In j b r d.0 (subst (λ l. In d.0 l) (sym d.1) (inl refl))).0, rest))
      (λ e. rw (choice-none i a self r e, choice-none j b self' r (sym (h r (inl refl)) ∙ e)) rest)

  module _ (rs : List (List Entry)) (runs : Runs I rs) where
    runs-alike : AllPairs (SameIdentity I.table) (read_list i a rs) (read_list j b rs) → SameRuns a b rs
    runs-alike p r h = iff-eq (reaches_run a r) (reaches_run b r) (λ e. over (run-gives i a self rs r h e)) (λ e. back (run-gives j b self' rs r h e))
      where
        over : (x : Entry) × In x r × In x.method (read_list i a rs) → reaches_run b r ≡ true
        over x =
            let y = pairs-right (SameIdentity I.table) (read_list i a rs) (read_list j b rs) p x.0.method x.2 in
            let g = given-run j b self' rs y.0 y.1 in
            subst (λ l. reaches_run b l ≡ true) (same-run I rs runs r g.0 x.0 g.2 h g.1 x.1 g.3 (y.2 ∙ ap (identity_of I.table) g.4)) g.5

        back : (x : Entry) × In x r × In x.method (read_list j b rs) → reaches_run a r ≡ true
        back x =
            let y = pairs-left (SameIdentity I.table) (read_list i a rs) (read_list j b rs) p x.0.method x.2 in
            let g = given-run i a self rs y.0 y.1 in
            subst (λ l. reaches_run a l ≡ true) (same-run I rs runs r g.0 x.0 g.2 h g.1 x.1 g.3 (sym y.2 ∙ ap (identity_of I.table) g.4)) g.5

    -- THE SAME IDENTITIES, PLACE BY PLACE, ARE THE SAME RUNS
    pub same_runs : AllPairs (SameIdentity I.table) (read_list i a rs) (read_list j b rs) ↔ SameRuns a b rs
    same_runs = (runs-alike, along rs runs.one)
