-- The search level by level tells what is told of the shortest ways (`folded`).
use mathlib.Core.Path.{◌≡◌, refl, sym, ap, ap₂, ◌∙◌}
use mathlib.Core.Bool.{Bool, true, false, not, ◌&&◌, ◌||◌}
use mathlib.Core.List.{List, [], ◌∷◌, ◌++◌, map}
use Prim.Native.Nat.{ℕ, zero, suc}
use Rattle.objects.specs.Table.{same_type}
use Rattle.objects.proofs.KeyLaws.{same_key}
use Rattle.objects.specs.Lists.{any, keep, flat, In}
use Rattle.objects.proofs.ListLaws.{cases, clash, or-true, any_append, keep-weaker, any-ext, any-map, keep-map, any-flat, keep-flat, map-append, any-In, any_none, none-In, some-In, map-map, un_not, any-yes, or_l, any-sub}
use Rattle.objects.specs.declared.TypeKey.{TypeKey}
use Rattle.rules.specs.Members.{Identity}
use Rattle.rules.specs.Ways.{Place, Walk, Way}
use Rattle.ways.specs.Graph.{Graph, Step, along, onward, walks, matching, ends, shortest}
use Rattle.ways.specs.Levels.{EmbeddedType, at, mark, raw, twin, merge, next, hit, found, verdict, unseen, search-levels, tied, folded}
use Rattle.ways.proofs.Merge.{Lawful, Class, any-merge, merge-keep, merge-next}

abbrev pub One : List Place → Type 0
One [] = Unit {0}
One (m ∷ []) = Unit {0}
One (m ∷ n ∷ l) = ⊥

-- what the table's rules say of the members of a key: identical types have one or none alike, and no type has two
pub record Keyed (G : Graph) (key : Identity) : Type 0 where
  pub alike : (a b : TypeKey) → G.same a b ≡ true → any (G.hit key) (G.members a) ≡ any (G.hit key) (G.members b)
  pub one : (t : TypeKey) → One (matching G key t)

-- a type has a member of the name
abbrev pub has : Graph → Identity → TypeKey → Bool
has G key t = any (G.hit key) (G.members t)

-- ---- the verdict on a merged level

module _ (G : Graph) (key : Identity) where
  verdict-many : (r : EmbeddedType) (X : List EmbeddedType) → r.multiples ≡ true → verdict G key (r ∷ X) ≡ tied (found G key r)
  verdict-many r [] e = rw e
  verdict-many r (s ∷ X) e = rw e

  pub verdict-merge : (W : List Walk) → verdict G key (merge G (map raw W)) ≡ folded G (map (λ w. found G key (raw w)) W)
  verdict-merge [] = refl
  verdict-merge (w ∷ []) = refl
  verdict-merge (w ∷ v ∷ vs) =
      cases (any (λ x. G.same w.at x.at) (v ∷ vs))
      (λ e. verdict-many (mark (raw w) (any (twin G (raw w)) (map raw (v ∷ vs)))) (keep (λ s. not (twin G (raw w) s)) (merge G (map raw (v ∷ vs)))) (any-map (twin G (raw w)) raw (v ∷ vs) ∙ e)
      ∙ rw (any-map (λ (x : Way). G.same w.at x.walk.at) (λ x. found G key (raw x)) vs, e))
      (λ e. rw (any-map (twin G (raw w)) raw vs, any-map (λ (x : Way). G.same w.at x.walk.at) (λ x. found G key (raw x)) vs, e, or_l (G.same w.at v.at) (any (λ x. G.same w.at x.at) vs) e))

module _ (G : Graph) (key : Identity) where
  -- the ways of a list of walks are the walks that end in a type with the key
  pub hits : (W : List Walk) → Keyed G key → flat (ends G key) W ≡ map (λ w. found G key (raw w)) (keep (λ w. has G key w.at) W)
  hits [] kd = refl
  hits (w ∷ ws) kd = go (matching G key w.at) refl (kd.one w.at) (hits ws kd)
    where
      go : (ms : List Place) → matching G key w.at ≡ ms → One ms → flat (ends G key) ws ≡ map (λ x. found G key (raw x)) (keep (λ x. has G key x.at) ws)
          → flat (ends G key) (w ∷ ws) ≡ map (λ x. found G key (raw x)) (keep (λ x. has G key x.at) (w ∷ ws))
      go [] e o ih = rw (e, any-yes (G.hit key) (G.members w.at), e, ih)
      go (m ∷ []) e o ih = rw (e, any-yes (G.hit key) (G.members w.at), e, ih, e)
      go (m ∷ n ∷ l) e o ih = absurd o

-- ---- the levels

-- nothing is skipped but what is identical to a type seen
abbrev pub Skips : Graph → (List TypeKey → TypeKey → Bool) → Type 0
Skips G skip = (seen : List TypeKey) (u : TypeKey) → skip seen u ≡ true → any (λ v. G.same v u) seen ≡ true

module _ (G : Graph) (r0 : Walk) where
  -- u is identical to a type that fewer than d steps reach
  abbrev pub reached : ℕ → TypeKey → Bool
  reached zero u = false
  reached (suc d) u = reached d u || any (λ w. G.same w.at u) (walks G r0 d)

  abbrev pub fresh : ℕ → EmbeddedType → Bool
  fresh d r = not (reached d (at r))

  -- all walks, as records that are not merged
  abbrev pub all : ℕ → List EmbeddedType
  all d = map raw (walks G r0 d)

pub all-next : (G : Graph) (W : List Walk) → map raw (flat (onward G) W) ≡ flat (next G) (map raw W)
all-next G [] = refl
all-next G (w ∷ ws) = map-append raw (onward G w) (flat (onward G) ws) ∙ ap₂ (λ x y. x ++ y) (map-map raw (along G w) (G.steps w.at)) (all-next G ws)

module _ (G : Graph) (law : Lawful G) (r0 : Walk) where
  pub class-reached : (d : ℕ) → Class G (reached G r0 d)
  class-reached zero a b h = refl
  class-reached (suc d) a b h =
      ap₂ (λ x y. x || y) (class-reached d a b h)
      (any-ext _ _ (λ w. law.turn w.at a ∙ law.chain a b w.at h ∙ law.turn b w.at) (walks G r0 d))

  pub same-any : (a b : TypeKey) → G.same a b ≡ true → (W : List Walk) → any (λ w. G.same w.at b) W ≡ any (λ w. G.same w.at a) W
  same-any a b h W = any-ext (λ w. G.same w.at b) (λ w. G.same w.at a) (λ w. law.turn w.at b ∙ sym (law.chain a b w.at h) ∙ law.turn a w.at) W

  -- one step from a type that d steps reach is reached by d + 1 steps
  pub step-on : (d : ℕ) (a : TypeKey) (s : Step) → any (λ w. G.same w.at a) (walks G r0 d) ≡ true → In s (G.steps a) → any (λ w. G.same w.at s.target) (walks G r0 (suc d)) ≡ true
  step-on d a s h i =
      let t = some-In (λ w. G.same w.at a) (walks G r0 d) h in
      any-flat (λ w. G.same w.at s.target) (onward G) (walks G r0 d)
      ∙ any-In _ (walks G r0 d) t.0 t.1
      (any-map (λ w. G.same w.at s.target) (along G t.0) (G.steps t.0.at)
      ∙ any-ext _ _ (λ x. law.turn x.target s.target) (G.steps t.0.at)
      ∙ law.alike t.0.at a s.target t.2
      ∙ any-In (λ x. G.same s.target x.target) (G.steps a) s i (law.self s.target))

  pub reached-on : (d : ℕ) (a : TypeKey) (s : Step) → reached G r0 d a ≡ true → In s (G.steps a) → reached G r0 (suc d) s.target ≡ true
  reached-on zero a s h i = clash h refl
  reached-on (suc d) a s h i =
      cases (reached G r0 d a)
      (λ e. rw (reached-on d a s e i))
      (λ e. rw (step-on d a s (rw e at h) i, or-true (reached G r0 (suc d) s.target)))

  -- what a type that is not fresh leads to is not fresh a level further down
  pub not-fresh : (d : ℕ) (r : EmbeddedType) → fresh G r0 d r ≡ false → any (fresh G r0 (suc d)) (next G r) ≡ false
  not-fresh d r h =
      any-map (fresh G r0 (suc d)) (λ s. record { walk = along G r.walk s; multiples = r.multiples }) (G.steps (at r))
      ∙ any_none _ (G.steps (at r)) (λ s i. ap not (reached-on d (at r) s (un_not (reached G r0 d (at r)) h) i))

  -- What holds of a level L, d steps down, and of the types seen before it.
  pub record Level (d : ℕ) (seen : List TypeKey) (L : List EmbeddedType) : Type 0 where
    pub level : keep (fresh G r0 d) L ≡ merge G (keep (fresh G r0 d) (all G r0 d))
    pub before : (u : TypeKey) → any (λ v. G.same v u) seen ≡ true → reached G r0 d u ≡ true
    pub within : (u : TypeKey) → any (λ r. G.same (at r) u) L ≡ true → any (λ w. G.same w.at u) (walks G r0 d) ≡ true

  pub begin : Level 0 [] (raw r0 ∷ [])
  begin = record { level = refl; before = λ u h. h; within = λ u h. h }

  module _ (skip : List TypeKey → TypeKey → Bool) (sk : Skips G skip) (d : ℕ) (seen : List TypeKey) (L : List EmbeddedType) (lv : Level d seen L) where
    -- the level without what was seen
    abbrev kept : List EmbeddedType
    kept = keep (unseen skip seen) L

    fresh-unseen : (r : EmbeddedType) → fresh G r0 d r ≡ true → unseen skip seen r ≡ true
    fresh-unseen r h = cases (skip seen (at r)) (λ e. clash h (ap not (lv.before (at r) (sk seen (at r) e)))) (λ e. rw e)

    kept_fresh : keep (fresh G r0 d) kept ≡ merge G (keep (fresh G r0 d) (all G r0 d))
    kept_fresh = keep-weaker (fresh G r0 d) (unseen skip seen) fresh-unseen L ∙ lv.level

    kept-within : (u : TypeKey) → any (λ r. G.same (at r) u) kept ≡ true → any (λ w. G.same w.at u) (walks G r0 d) ≡ true
    kept-within u h = lv.within u (any-sub (λ r. G.same (at r) u) (unseen skip seen) L h)

    merge-newer : (M : List EmbeddedType) → merge G (keep (fresh G r0 (suc d)) M) ≡ keep (fresh G r0 (suc d)) (merge G M)
    merge-newer M = merge-keep G law (λ u. not (reached G r0 (suc d) u)) (λ a b h. ap not (class-reached (suc d) a b h)) M

    onto-level : keep (fresh G r0 (suc d)) (merge G (flat (next G) kept)) ≡ merge G (keep (fresh G r0 (suc d)) (all G r0 (suc d)))
    onto-level =
        sym (merge-newer (flat (next G) kept))
        ∙ ap (merge G) (sym (keep-flat (fresh G r0 (suc d)) (fresh G r0 d) (next G) (not-fresh d) kept))
        ∙ ap (λ l. merge G (keep (fresh G r0 (suc d)) (flat (next G) l))) kept_fresh
        ∙ merge-newer (flat (next G) (merge G (keep (fresh G r0 d) (all G r0 d))))
        ∙ ap (keep (fresh G r0 (suc d))) (merge-next G law (keep (fresh G r0 d) (all G r0 d)))
        ∙ sym (merge-newer (flat (next G) (keep (fresh G r0 d) (all G r0 d))))
        ∙ ap (merge G) (keep-flat (fresh G r0 (suc d)) (fresh G r0 d) (next G) (not-fresh d) (all G r0 d))
        ∙ ap (λ l. merge G (keep (fresh G r0 (suc d)) l)) (sym (all-next G (walks G r0 d)))

    onto-before : (u : TypeKey) → any (λ v. G.same v u) (map at kept ++ seen) ≡ true → reached G r0 (suc d) u ≡ true
    onto-before u h =
        cases (any (λ r. G.same (at r) u) kept)
        (λ e. rw (kept-within u e, or-true (reached G r0 d u)))
        (λ e. rw (lv.before u (rw (any_append (λ v. G.same v u) (map at kept) seen, any-map (λ v. G.same v u) at kept, e) at h)))

    on_step : (r : EmbeddedType) (s : Step) (u : TypeKey) → In r kept → In s (G.steps (at r)) → G.same s.target u ≡ true → any (λ w. G.same w.at u) (walks G r0 (suc d)) ≡ true
    on_step r s u i j h =
        same-any s.target u h (walks G r0 (suc d)) ∙ step-on d (at r) s (kept-within (at r) (any-In (λ x. G.same (at x) (at r)) kept r i (law.self (at r)))) j

    onto-within : (u : TypeKey) → any (λ r. G.same (at r) u) (merge G (flat (next G) kept)) ≡ true → any (λ w. G.same w.at u) (walks G r0 (suc d)) ≡ true
    onto-within u h =
        let h₁ = sym (any-merge G law (λ a. G.same a u) (λ a b e. law.chain a b u e) (flat (next G) kept)) ∙ h in
        let r = some-In (λ x. any (λ y. G.same (at y) u) (next G x)) kept (sym (any-flat (λ y. G.same (at y) u) (next G) kept) ∙ h₁) in
        let s = some-In (λ x. G.same x.target u) (G.steps (at r.0)) (sym (any-map (λ y. G.same (at y) u) (λ x. record { walk = along G r.0.walk x; multiples = r.0.multiples }) (G.steps (at r.0))) ∙ r.2) in
        on_step r.0 s.0 u r.1 s.1 s.2

    onto : Level (suc d) (map at kept ++ seen) (merge G (flat (next G) kept))
    onto = record { level = onto-level; before = onto-before; within = onto-within }

-- ---- the answer

-- fewer than d steps lead to no type with the key
abbrev pub NoneYet : Graph → Walk → Identity → ℕ → Type 0
NoneYet G r0 key d = (u : TypeKey) → reached G r0 d u ≡ true → has G key u ≡ false

-- the walks of d steps that end in a type with the key
abbrev pub good : Graph → Walk → Identity → ℕ → List Walk
good G r0 key d = keep (λ w. has G key w.at) (walks G r0 d)

-- identical types have the name alike
abbrev pub Alike : Graph → Identity → Type 0
Alike G key = (a b : TypeKey) → G.same a b ≡ true → has G key a ≡ has G key b

module _ (G : Graph) (law : Lawful G) (r0 : Walk) (key : Identity) (al : Alike G key) where
  pub later : (d : ℕ) → NoneYet G r0 key d → good G r0 key d ≡ [] → NoneYet G r0 key (suc d)
  later d ny e u h =
      cases (reached G r0 d u)
      (λ f. ny u f)
      (λ f. let w = some-In (λ x. G.same x.at u) (walks G r0 d) (rw f at h) in
      sym (al w.0.at u w.2) ∙ none-In (λ x. has G key x.at) (walks G r0 d) w.0 (any-yes (λ x. has G key x.at) (walks G r0 d) ∙ rw e) w.1)

  pub hit-fresh : (d : ℕ) → NoneYet G r0 key d → (r : EmbeddedType) → hit G key r ≡ true → fresh G r0 d r ≡ true
  hit-fresh d ny r h = cases (reached G r0 d (at r)) (λ e. clash h (ny (at r) e)) (λ e. rw e)

module _ (G : Graph) (law : Lawful G) (skip : List TypeKey → TypeKey → Bool) (sk : Skips G skip) (r0 : Walk) (key : Identity) (kd : Keyed G key) where
  -- the records of a level that have the key are the merged walks that do
  hits-level : (d : ℕ) (seen : List TypeKey) (L : List EmbeddedType) (lv : Level G law r0 d seen L) → NoneYet G r0 key d → keep (hit G key) (keep (unseen skip seen) L) ≡ merge G (map raw (good G r0 key d))
  hits-level d seen L lv ny =
      sym (keep-weaker (hit G key) (fresh G r0 d) (hit-fresh G law r0 key kd.alike d ny) (keep (unseen skip seen) L))
      ∙ ap (keep (hit G key)) (kept_fresh G law r0 skip sk d seen L lv)
      ∙ sym (merge-keep G law (has G key) kd.alike (keep (fresh G r0 d) (all G r0 d)))
      ∙ ap (merge G) (keep-weaker (hit G key) (fresh G r0 d) (hit-fresh G law r0 key kd.alike d ny) (all G r0 d) ∙ keep-map (hit G key) raw (walks G r0 d))

  -- THE LEVELS TELL WHAT IS TOLD OF THE WAYS.
  pub search_is : (k d : ℕ) (seen : List TypeKey) (L : List EmbeddedType) → Level G law r0 d seen L → NoneYet G r0 key d → search-levels G skip key k seen L ≡ folded G (shortest G key r0 d k)
  search_is zero d seen L lv ny = refl
  search_is (suc k) d seen L lv ny =
      go (good G r0 key d) refl (λ ny'. search_is k (suc d) _ _ (onto G law r0 skip sk d seen L lv) ny')
    where
      go : (W : List Walk) → good G r0 key d ≡ W
          → (NoneYet G r0 key (suc d) → search-levels G skip key k (map at (keep (unseen skip seen) L) ++ seen) (merge G (flat (next G) (keep (unseen skip seen) L))) ≡ folded G (shortest G key r0 (suc d) k))
          → search-levels G skip key (suc k) seen L ≡ folded G (shortest G key r0 d (suc k))
      go [] e ih = rw (hits-level d seen L lv ny, search-levels, hits G key (walks G r0 d) kd, shortest, e) (ih (later G law r0 key kd.alike d ny e))
      go (w ∷ ws) e ih = rw (hits-level d seen L lv ny, search-levels, hits G key (walks G r0 d) kd, shortest, e) (verdict-merge G key (w ∷ ws))

-- goscript's rule: a named type whose number was seen
pub named-skips : (G : Graph) → Lawful G → (named : TypeKey → Bool) → Skips G (λ seen u. named u && any (λ v. same_type v u) seen)
named-skips G law named seen u h = go (named u) h
  where
    go : (b : Bool) → b && any (λ v. same_type v u) seen ≡ true → any (λ v. G.same v u) seen ≡ true
    go true h = let w = some-In (λ v. same_type v u) seen h in any-In (λ v. G.same v u) seen w.0 w.1 (rw (same_key w.0 u w.2) (law.self u))
    go false h = clash h refl
