-- No shortest way has as many steps as there are types.
use mathlib.Core.Path.{◌≡◌, refl, ap, ◌∙◌}
use mathlib.Core.Bool.{true, false}
use mathlib.Core.List.{List, [], ◌∷◌, cons≢nil}
use mathlib.Core.Logic.{inl}
use Prim.Native.Nat.{ℕ, zero, suc, ◌≤◌, ◌<◌}
use native.Mathlib.Omega.{arith}
use native.Mathlib.Decide.{dec_lt}
use lib.ListN.{length}
use Rattle.objects.proofs.Pigeons.{Distinct, pigeons}
use Rattle.objects.proofs.KeyLaws.{key-eq}
use Rattle.objects.specs.Lists.{keep, flat, In}
use Rattle.objects.proofs.ListLaws.{cases, clash, either, or-true, any-In, In-keep, In-map, In-flat, any-yes, keep-none}
use Rattle.objects.specs.declared.TypeKey.{TypeKey}
use Rattle.rules.specs.Members.{Identity}
use Rattle.rules.specs.Ways.{Place, Walk}
use Rattle.ways.specs.Graph.{Graph, Step, along, onward, walks, matching, ends, ways}
use Rattle.ways.specs.Levels.{raw}
use Rattle.ways.proofs.Merge.{Lawful}
use Rattle.ways.proofs.Same.{Alike, reached, reached-on, later, hit-fresh, has, NoneYet, good}

-- ---- walks

-- every type number that a step leads to is one
abbrev pub Closed : Graph → Type 0
Closed G = (t : TypeKey) (s : Step) → t.0 < G.size → In s (G.steps t) → s.target.0 < G.size

module _ (G : Graph) (cl : Closed G) (r0 : Walk) (in0 : r0.at.0 < G.size) where
  pub in_size : (d : ℕ) (w : Walk) → In w (walks G r0 d) → w.at.0 < G.size
  in_size zero w (mathlib.Core.Logic.inr x'') = elim x'' [ ]
  in_size zero w (inl e) = rw e in0
  in_size (suc d) w i =
      let u = In-flat (onward G) (walks G r0 d) w i in
      let s = In-map (along G u.0) (G.steps u.0.at) w u.2 in
      rw s.2 (cl u.0.at s.0 (in_size d u.0 u.1) s.1)

module _ (G : Graph) (law : Lawful G) (cl : Closed G) (r0 : Walk) (in0 : r0.at.0 < G.size) where
  here : (d : ℕ) (w : Walk) → In w (walks G r0 d) → reached G r0 (suc d) w.at ≡ true
  here d w i = rw (any-In (λ x. G.same x.at w.at) (walks G r0 d) w i (law.self w.at), or-true (reached G r0 d w.at))

  -- the numbers of the types on a walk to a type that no fewer steps reach: they are all different
  pub record Trail (d : ℕ) : Type 0 where
    pub list : List ℕ
    pub long : length list ≡ suc d
    pub distinct : Distinct list
    pub sized : (x : ℕ) → In x list → x < G.size
    pub known : (x : TypeKey) → In x.0 list → reached G r0 (suc d) x ≡ true

  trail : (d : ℕ) (w : Walk) → In w (walks G r0 d) → reached G r0 d w.at ≡ false → Trail d
  trail zero w i h =
      record {
        list = w.at.0 ∷ [];
        long = refl;
        distinct = (λ j. j, tt);
        sized = λ x j. either j (λ e. rw e (in_size G cl r0 in0 0 w i)) (λ k. absurd k);
        known = λ x j. either j (λ e. rw (key-eq x w.at e) (here 0 w i)) (λ k. absurd k);
      }
  trail (suc d) w i h =
      let u = In-flat (onward G) (walks G r0 d) w i in
      let s = In-map (along G u.0) (G.steps u.0.at) w u.2 in
      let t = trail d u.0 u.1 (cases (reached G r0 d u.0.at) (λ e. clash (ap (λ (x : Walk). reached G r0 (suc d) x.at) s.2 ∙ reached-on G law r0 d u.0.at s.0 e s.1) h) (λ e. e)) in
      record {
        list = w.at.0 ∷ t.list;
        long = ap suc t.long;
        distinct = (λ j. clash (t.known w.at j) h, t.distinct);
        sized = λ x j. either j (λ e. rw e (in_size G cl r0 in0 (suc d) w i)) (t.sized x);
        known = λ x j. either j (λ e. rw (key-eq x w.at e) (here (suc d) w i)) (λ k. rw (t.known x k));
      }

  pub bound : (d : ℕ) (w : Walk) → In w (walks G r0 d) → reached G r0 d w.at ≡ false → d < G.size
  bound d w i h = let t = trail d w i h in let p = pigeons G.size t.list t.distinct t.sized in omega arith

-- ---- ways

module _ (G : Graph) (r0 : Walk) (key : Identity) where
  -- there are ways of d steps exactly if a walk of d steps ends in a type with the name
  pub none-good : (d : ℕ) → ways G key r0 d ≡ [] → good G r0 key d ≡ []
  none-good d h = go (walks G r0 d) h
    where
      go : (W : List Walk) → flat (ends G key) W ≡ [] → keep (λ w. has G key w.at) W ≡ []
      go [] e = refl
      go (w ∷ ws) e = on (matching G key w.at) refl (go ws)
        where
          on : (ms : List Place) → matching G key w.at ≡ ms → (flat (ends G key) ws ≡ [] → keep (λ v. has G key v.at) ws ≡ []) → keep (λ v. has G key v.at) (w ∷ ws) ≡ []
          on [] m ih = rw (any-yes (G.hit key) (G.members w.at), m) (ih (rw m at e))
          on (x ∷ ms) m ih = absurd (cons≢nil (rw m at e))

  pub none-ways : (d : ℕ) → good G r0 key d ≡ [] → ways G key r0 d ≡ []
  none-ways d h = go (walks G r0 d) h
    where
      go : (W : List Walk) → keep (λ w. has G key w.at) W ≡ [] → flat (ends G key) W ≡ []
      go [] e = refl
      go (w ∷ ws) e =
          cases (has G key w.at)
          (λ f. absurd (cons≢nil (rw f at e)))
          (λ f. rw (keep-none (G.hit key) (G.members w.at) f) (go ws (rw f at e)))

module _ (G : Graph) (law : Lawful G) (r0 : Walk) (key : Identity) (al : Alike G key) where
  pub none_before : (d : ℕ) → ((j : ℕ) → j < d → ways G key r0 j ≡ []) → NoneYet G r0 key d
  none_before zero h = λ u e. clash e refl
  none_before (suc d) h = later G law r0 key al d (none_before d (λ j l. h j (omega arith))) (none-good G r0 key d (h d (omega arith)))

module _ (G : Graph) (law : Lawful G) (cl : Closed G) (r0 : Walk) (in0 : r0.at.0 < G.size) (key : Identity) (al : Alike G key) where
  -- no way of fewer than d steps, and d is not less than the number of types: none of d steps
  beyond : (d : ℕ) → G.size ≤ d → NoneYet G r0 key d → good G r0 key d ≡ []
  beyond d le ny = go (good G r0 key d) refl
    where
      go : (W : List Walk) → good G r0 key d ≡ W → good G r0 key d ≡ []
      go [] e = e
      go (w ∷ ws) e =
          let i = In-keep (λ x. has G key x.at) (walks G r0 d) w (rw e (inl refl)) in
          let f = hit-fresh G law r0 key al d ny (raw w) i.1 in
          let b = bound G law cl r0 in0 d w i.0 (cases (reached G r0 d w.at) (λ t. clash f (rw t)) (λ t. t)) in
          absurd (omega arith)

  none_yet : ((d : ℕ) → d < G.size → ways G key r0 d ≡ []) → (d : ℕ) → NoneYet G r0 key d
  none_yet h zero = λ u e. clash e refl
  none_yet h (suc d) =
      later G law r0 key al d (none_yet h d)
      (elim (dec_lt d G.size) [ yes lt ↦ none-good G r0 key d (h d lt) | no ge ↦ beyond d (omega arith) (none_yet h d) ])

  -- WAYS MAY BE OF ANY LENGTH: if none has fewer steps than there are types, there is none.
  pub none-longer : ((d : ℕ) → d < G.size → ways G key r0 d ≡ []) → (d : ℕ) → ways G key r0 d ≡ []
  none-longer h d = none-ways G r0 key d (good_none d)
    where
      good_none : (d : ℕ) → good G r0 key d ≡ []
      good_none d = elim (dec_lt d G.size) [ yes lt ↦ none-good G r0 key d (h d lt) | no ge ↦ beyond d (omega arith) (none_yet h d) ]
