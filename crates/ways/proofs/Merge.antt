-- Merging identical types: what it keeps, and that it may be done before or after the next step.
use mathlib.Core.Path.{◌≡◌, refl, sym, ap, ap₂, ◌∙◌}
use mathlib.Core.Bool.{Bool, true, false, not, ◌&&◌, ◌||◌}
use mathlib.Core.List.{List, [], ◌∷◌, ◌++◌, map}
use Rattle.objects.specs.Lists.{any, keep, flat, In}
use Rattle.objects.proofs.ListLaws.{cases, clash, or_assoc, or-false, or-true, not-or, any_append, keep_append, keep-keep, keep-swap, keep-weaker, any-keep, remove-none, any-ext, keep-ext, any-map, keep-map, any-flat, keep-flat, any-In, any_none, some-In, map-In, map-map, keep-yes, un_not}
use Rattle.objects.specs.declared.TypeKey.{TypeKey}
use Rattle.ways.specs.Graph.{Graph, along}
use Rattle.ways.specs.Levels.{EmbeddedType, at, mark, twin, merge, next}

-- What identity keeps. `alike`: identical types embed identical types.
pub record Lawful (G : Graph) : Type 0 where
  pub self : (a : TypeKey) → G.same a a ≡ true
  pub turn : (a b : TypeKey) → G.same a b ≡ G.same b a
  pub chain : (a b c : TypeKey) → G.same a b ≡ true → G.same a c ≡ G.same b c
  pub alike : (a b u : TypeKey) → G.same a b ≡ true → any (λ s. G.same u s.target) (G.steps a) ≡ any (λ s. G.same u s.target) (G.steps b)

module _ (G : Graph) where
  -- a test of types that does not tell identical ones apart
  abbrev pub Class : (TypeKey → Bool) → Type 0
  Class p = (a b : TypeKey) → G.same a b ≡ true → p a ≡ p b

  -- two merged lists, one after the other
  abbrev pub join : List EmbeddedType → List EmbeddedType → List EmbeddedType
  join X Y = map (λ r. mark r (any (twin G r) Y)) X ++ keep (λ s. not (any (λ r. twin G r s) X)) Y

module _ (G : Graph) (law : Lawful G) where
  not-twin : (p : TypeKey → Bool) → Class G p → (a b : TypeKey) → p a ≡ false → p b ≡ true → not (G.same a b) ≡ true
  not-twin p c a b h k = cases (G.same a b) (λ e. clash (c a b e ∙ k) h) (λ e. rw e)

  pub any-merge : (p : TypeKey → Bool) → Class G p → (L : List EmbeddedType) → any (λ r. p (at r)) (merge G L) ≡ any (λ r. p (at r)) L
  any-merge p c [] = refl
  any-merge p c (r ∷ rs) =
      cases (p (at r))
      (λ e. rw e)
      (λ e. rw e (any-keep (λ s. p (at s)) (λ s. not (twin G r s)) (λ s h. not-twin p c (at r) (at s) e h) (merge G rs) ∙ any-merge p c rs))

  pub merge-keep : (p : TypeKey → Bool) → Class G p → (L : List EmbeddedType) → merge G (keep (λ r. p (at r)) L) ≡ keep (λ r. p (at r)) (merge G L)
  merge-keep p c [] = refl
  merge-keep p c (r ∷ rs) =
      cases (p (at r))
      (λ e. rw e (ap₂ (λ b l. mark r b ∷ l)
      (any-keep (twin G r) (λ s. p (at s)) (λ s h. sym (c (at r) (at s) h) ∙ e) rs)
      (rw (merge-keep p c rs, keep-swap (λ s. p (at s)) (λ s. not (twin G r s)) (merge G rs)))))
      (λ e. rw e (merge-keep p c rs ∙ sym (keep-weaker (λ s. p (at s)) (λ s. not (twin G r s)) (λ s h. not-twin p c (at r) (at s) e h) (merge G rs))))

  class_same : (a : TypeKey) → Class G (G.same a)
  class_same a b d h = law.turn a b ∙ law.chain b d a h ∙ law.turn d a

  pub any-twin : (r : EmbeddedType) (L : List EmbeddedType) → any (twin G r) (merge G L) ≡ any (twin G r) L
  any-twin r L = any-merge (G.same (at r)) (class_same (at r)) L

  any-niwt : (s : EmbeddedType) (L : List EmbeddedType) → any (λ r. twin G r s) (merge G L) ≡ any (λ r. twin G r s) L
  any-niwt s L = any-merge (λ a. G.same a (at s)) (λ a b h. law.chain a b (at s) h) L

  mark-mark : (r : EmbeddedType) (a b : Bool) → mark (mark r a) b ≡ mark r (a || b)
  mark-mark r a b = rw (or_assoc r.multiples a b)

  -- merging a list in two parts
  pub merge-append : (A B : List EmbeddedType) → merge G (A ++ B) ≡ join G (merge G A) (merge G B)
  merge-append [] B = sym (keep-yes (merge G B))
  merge-append (r ∷ A) B = rw (merge-append A B) (ap₂ (λ h t. h ∷ t) first others)
    where
      first : mark r (any (twin G r) (A ++ B)) ≡ mark (mark r (any (twin G r) A)) (any (twin G r) (merge G B))
      first = rw (any_append (twin G r) A B, mark-mark r (any (twin G r) A) (any (twin G r) (merge G B)), any-twin r B)

      left_out : (s : EmbeddedType) → not (twin G r s) && not (any (λ x. twin G x s) (merge G A)) ≡ not (any (λ x. twin G x s) (merge G (r ∷ A)))
      left_out s = rw (any-niwt s (r ∷ A), any-niwt s A, not-or)

      others : keep (λ s. not (twin G r s)) (join G (merge G A) (merge G B))
          ≡ map (λ x. mark x (any (twin G x) (merge G B))) (keep (λ s. not (twin G r s)) (merge G A)) ++ keep (λ s. not (any (λ x. twin G x s) (merge G (r ∷ A)))) (merge G B)
      others =
          keep_append (λ s. not (twin G r s)) (map (λ x. mark x (any (twin G x) (merge G B))) (merge G A)) (keep (λ s. not (any (λ x. twin G x s) (merge G A))) (merge G B))
          ∙ ap₂ (λ a b. a ++ b)
          (keep-map (λ s. not (twin G r s)) (λ x. mark x (any (twin G x) (merge G B))) (merge G A))
          (keep-swap (λ s. not (twin G r s)) (λ s. not (any (λ x. twin G x s) (merge G A))) (merge G B)
          ∙ keep-keep (λ s. not (any (λ x. twin G x s) (merge G A))) (λ s. not (twin G r s)) (merge G B)
          ∙ keep-ext _ _ left_out (merge G B))

  -- ---- one step on

  -- the types that a type embeds, as a test
  abbrev leads : TypeKey → TypeKey → Bool
  leads a u = any (λ s. G.same u s.target) (G.steps a)

  any_next : (u : TypeKey) (r : EmbeddedType) → any (λ s. G.same u (at s)) (next G r) ≡ leads (at r) u
  any_next u r = any-map (λ s. G.same u (at s)) (λ s. record { walk = along G r.walk s; multiples = r.multiples }) (G.steps (at r))

  -- a merged list whose members are all marked
  merge-marked : (L : List EmbeddedType) → merge G (map (λ r. mark r true) L) ≡ map (λ r. mark r true) (merge G L)
  merge-marked [] = refl
  merge-marked (r ∷ rs) = ap₂ (λ h t. h ∷ t) (rw (or-true r.multiples, or-true (r.multiples || any (twin G r) rs)))
      (rw (merge-marked rs, keep-map (λ s. not (twin G r s)) (λ x. mark x true) (merge G rs)))

  next-marked : (r : EmbeddedType) → next G (mark r true) ≡ map (λ x. mark x true) (next G r)
  next-marked r = sym (map-map (λ x. mark x true) (λ s. record { walk = along G r.walk s; multiples = r.multiples }) (G.steps (at r)))

  -- what one of two identical types leads to, the other does
  led : (r x : EmbeddedType) → twin G r x ≡ true → any (λ s. not (leads (at r) (at s))) (next G x) ≡ false
  led r x e = any-map (λ s. not (leads (at r) (at s))) (λ s. record { walk = along G x.walk s; multiples = x.multiples }) (G.steps (at x))
      ∙ any_none _ (G.steps (at x)) (λ s i. ap not (law.alike (at r) (at x) s.target e ∙ any-In (λ y. G.same s.target y.target) (G.steps (at x)) s i (law.self s.target)))

  class-leads : (a : TypeKey) → Class G (λ u. not (leads a u))
  class-leads a b d h = ap not (any-ext _ _ (λ s. law.chain b d s.target h) (G.steps a))

  outside : (x s : EmbeddedType) → not (any (λ u. twin G u s) (merge G (next G x))) ≡ not (leads (at x) (at s))
  outside x s = ap not (any-niwt s (next G x) ∙ any-ext _ _ (λ u. law.turn (at u) (at s)) (next G x) ∙ any_next (at s) x)

  module _ (r : EmbeddedType) (X : List EmbeddedType) (twins : any (twin G r) X ≡ true) where
    -- all that r leads to is met again
    again : (u : EmbeddedType) → In u (merge G (next G r)) → any (twin G u) (flat (next G) X) ≡ true
    again u i =
        let t = some-In (twin G r) X twins in
        any-flat (twin G u) (next G) X
        ∙ any-In (λ x. any (twin G u) (next G x)) X t.0 t.1
        (any_next (at u) t.0 ∙ sym (law.alike (at r) (at t.0) (at u) t.2) ∙ sym (any_next (at u) r) ∙ sym (any-twin u (next G r))
        ∙ any-In (twin G u) (merge G (next G r)) u i (law.self (at u)))

    firsts : map (λ u. mark u (any (twin G u) (merge G (flat (next G) (keep (λ s. not (twin G r s)) X))))) (merge G (next G (mark r true)))
        ≡ map (λ u. mark u (any (twin G u) (merge G (flat (next G) X)))) (merge G (next G r))
    firsts =
        rw (next-marked r, merge-marked (next G r))
        (map-map _ (λ x. mark x true) (merge G (next G r))
        ∙ map-In _ _ (merge G (next G r)) (λ u i. rw (or-true u.multiples, any-twin u (flat (next G) X), again u i, or-true u.multiples)))

    seconds : keep (λ s. not (any (λ u. twin G u s) (merge G (next G (mark r true))))) (merge G (flat (next G) (keep (λ s. not (twin G r s)) X)))
        ≡ keep (λ s. not (any (λ u. twin G u s) (merge G (next G r)))) (merge G (flat (next G) X))
    seconds =
        keep-ext _ _ (outside (mark r true)) (merge G (flat (next G) (keep (λ s. not (twin G r s)) X)))
        ∙ sym (merge-keep (λ u. not (leads (at r) u)) (class-leads (at r)) (flat (next G) (keep (λ s. not (twin G r s)) X)))
        ∙ ap (merge G) (keep-flat (λ s. not (leads (at r) (at s))) (λ s. not (twin G r s)) (next G) (λ x e. led r x (un_not (twin G r x) e)) X)
        ∙ merge-keep (λ u. not (leads (at r) u)) (class-leads (at r)) (flat (next G) X)
        ∙ sym (keep-ext _ _ (outside r) (merge G (flat (next G) X)))

  next-step : (r : EmbeddedType) (X : List EmbeddedType) → merge G (next G (mark r (any (twin G r) X)) ++ flat (next G) (keep (λ s. not (twin G r s)) X)) ≡ merge G (next G r ++ flat (next G) X)
  next-step r X =
      cases (any (twin G r) X)
      (λ e. rw (e, merge-append (next G (mark r true)) (flat (next G) (keep (λ s. not (twin G r s)) X)), merge-append (next G r) (flat (next G) X)) (ap₂ (λ a b. a ++ b) (firsts r X e) (seconds r X e)))
      (λ e. rw (e, or-false r.multiples, remove-none (twin G r) X e))

  pub merge-next : (L : List EmbeddedType) → merge G (flat (next G) (merge G L)) ≡ merge G (flat (next G) L)
  merge-next [] = refl
  merge-next (r ∷ rs) =
      rw (← any-twin r rs, next-step r (merge G rs), merge-append (next G r) (flat (next G) (merge G rs)), merge-next rs, ← merge-append (next G r) (flat (next G) rs))
