-- The test by which `shortest_from` tells whether a length has a way, on the types that walks of that length reach, is what it stands for. So the rules'
-- shortest ways are those of the table's graph.
use mathlib.Core.Path.{◌≡◌, refl, sym, ap, ◌∙◌}
use mathlib.Core.Bool.{Bool, true, false, not, ◌||◌}
use mathlib.Core.List.{List, [], ◌∷◌, ◌++◌, map}
use Prim.Native.Nat.{ℕ, zero, suc}
use Rattle.objects.specs.Lists.{any, keep, flat, empty}
use Rattle.objects.proofs.ListLaws.{cases, any-flat, any-map, any-ext}
use Rattle.objects.proofs.KeyLaws.{same_key}
use Rattle.objects.specs.declared.TypeKey.{TypeKey}
use Rattle.objects.specs.Table.{Table, size, same_type, bare}
use Rattle.rules.specs.Members.{Identity, identity_of, same_id}
use Rattle.rules.specs.Chains.{once}
use Rattle.rules.specs.Ways.{Walk, Way, start, along, embedded, onward, walks, targets, owned, matching, ends, ways, has_own, shortest_from, shortest}
use Rattle.ways.specs.Graph as over
use Rattle.ways.specs.OfTable.{graph}
use Rattle.ways.proofs.Bridge.{ways-are}

-- ---- lists

module _ {A : Type 0} where
  any-kept : (p : A → Bool) (l : List A) → not (empty (keep p l)) ≡ any p l
  any-kept p [] = refl
  any-kept p (x ∷ xs) = cases (p x) (λ e. rw e) (λ e. rw e (any-kept p xs))

  keep_same : (same : A → A → Bool) (q : A → Bool) → ((x y : A) → same x y ≡ true → q x ≡ q y)
      → (x : A) (l : List A) → q x || any q (keep (λ y. not (same x y)) l) ≡ q x || any q l
  keep_same same q resp x [] = refl
  keep_same same q resp x (y ∷ l) = cases (same x y)
      (λ e. rw (e, keep_same same q resp x l, ← resp x y e) (twice (q x) (any q l)))
      (λ e. rw e (swap (q x) (q y) _ _ (keep_same same q resp x l)))
    where
      twice : (a b : Bool) → a || b ≡ a || (a || b)
      twice true b = refl
      twice false b = refl

      swap : (a b c d : Bool) → a || c ≡ a || d → a || (b || c) ≡ a || (b || d)
      swap true b c d h = refl
      swap false b c d h = ap (λ z. b || z) h

  any-once : (same : A → A → Bool) (q : A → Bool) → ((x y : A) → same x y ≡ true → q x ≡ q y) → (l : List A) → any q (once same l) ≡ any q l
  any-once same q resp [] = refl
  any-once same q resp (x ∷ xs) = keep_same same q resp x (once same xs) ∙ ap (λ z. q x || z) (any-once same q resp xs)

module _ {A B : Type 0} where
  some-flat : (f : A → List B) (l : List A) → not (empty (flat f l)) ≡ any (λ x. not (empty (f x))) l
  some-flat f [] = refl
  some-flat f (x ∷ xs) = go (f x) (some-flat f xs)
    where
      go : (m : List B) → not (empty (flat f xs)) ≡ any (λ y. not (empty (f y))) xs → not (empty (m ++ flat f xs)) ≡ not (empty m) || any (λ y. not (empty (f y))) xs
      go [] h = h
      go (y ∷ m) h = refl

  some-map : (f : A → B) (l : List A) → not (empty (map f l)) ≡ not (empty l)
  some-map f [] = refl
  some-map f (x ∷ xs) = refl

-- ---- a level

module _ (T : Table) (t : TypeKey) where
  -- the types that walks of d steps lead to, each once: the level that `shortest_from` has at d
  abbrev pub level_at : ℕ → List TypeKey
  level_at zero = bare T t ∷ []
  level_at (suc d) = once same_type (flat (targets T) (level_at d))

  onward-at : (q : TypeKey → Bool) (w : Walk) → any (λ v. q v.at) (onward T w) ≡ any q (targets T w.at)
  unfolding onward
  onward-at q w = any-map (λ v. q v.at) (along T w) (embedded T w.at) ∙ sym (any-map q (λ p. bare T p.member.type) (embedded T w.at))

  level-walks : (q : TypeKey → Bool) (d : ℕ) → any q (level_at d) ≡ any (λ w. q w.at) (walks T t d)
  unfolding walks
  level-walks q zero = refl
  level-walks q (suc d) =
      any-once same_type q (λ x y e. ap q (same_key x y e)) (flat (targets T) (level_at d))
      ∙ any-flat q (targets T) (level_at d)
      ∙ level-walks (λ u. any q (targets T u)) d
      ∙ sym (any-flat (λ w. q w.at) (onward T) (walks T t d) ∙ any-ext (λ w. any (λ v. q v.at) (onward T w)) (λ w. any q (targets T w.at)) (onward-at q) (walks T t d))

  pub level-says : (asked : Identity) (d : ℕ) → any (has_own T asked) (level_at d) ≡ not (empty (ways T asked t d))
  unfolding ways
  level-says asked d =
      level-walks (has_own T asked) d
      ∙ sym (some-flat (ends T asked) (walks T t d) ∙ any-ext (λ w. not (empty (ends T asked w))) (λ w. has_own T asked w.at) one (walks T t d))
    where
      one : (w : Walk) → not (empty (ends T asked w)) ≡ has_own T asked w.at
      one w = some-map (λ p. record { walk = w; last = p }) (matching T asked w.at) ∙ any-kept (λ p. same_id (identity_of T p.member) asked) (owned T w.at)

  -- ---- the shortest ways

  module _ (asked : Identity) where
    from-are : (k d : ℕ) → shortest_from T asked t k d (level_at d) ≡ over.shortest (graph T) asked (start T t) d k
    unfolding shortest_from
    from-are zero d = refl
    from-are (suc k) d = go (ways T asked t d) refl (from-are k (suc d))
      where
        go : (ws : List Way) → ways T asked t d ≡ ws → shortest_from T asked t k (suc d) (level_at (suc d)) ≡ over.shortest (graph T) asked (start T t) (suc d) k
            → shortest_from T asked t (suc k) d (level_at d) ≡ over.shortest (graph T) asked (start T t) d (suc k)
        go [] e ih =
            let no : any (has_own T asked) (level_at d) ≡ false = level-says asked d ∙ ap (λ l. not (empty l)) e in
            rw (no, shortest_from, sym (ways-are T asked t d) ∙ e, over.shortest) ih
        go (w ∷ ws) e ih =
            let yes : any (has_own T asked) (level_at d) ≡ true = level-says asked d ∙ ap (λ l. not (empty l)) e in
            rw (yes, shortest_from, sym (ways-are T asked t d) ∙ e, over.shortest) e

    pub shortest-are : shortest T asked t ≡ over.shortest (graph T) asked (start T t) 0 (size T)
    unfolding shortest
    shortest-are = from-are (size T) 0
