-- `MethodSet::new`, key by key: after every number of levels, its map says how the name stands by goscript's rule.
use mathlib.Core.Path.{◌≡◌, refl, sym, ap, ap₂, ◌∙◌}
use mathlib.Core.Bool.{true, false, not, ◌||◌}
use mathlib.Core.List.{List, [], ◌∷◌, map, foldl}
use mathlib.Core.Option.{none}
use Prim.Native.Nat.{ℕ, zero, suc}
use lib.Dec.{eqb}
use Rattle.objects.specs.Lists.{any, keep, flat}
use Rattle.objects.proofs.ListLaws.{cases, any-ext, any_append, any-map, keep-map, keep-ext, flat-In-ext}
use Rattle.objects.proofs.KeyLaws.{same_key}
use Rattle.text.specs.Bytes.{is_blank}
use Rattle.objects.specs.declared.TypeKey.{TypeKey}
use Rattle.objects.specs.Table.{Table, same_type, is_named, kind_at}
use Rattle.rules.specs.Members.{Identity}
use Rattle.rules.specs.Sound.{Sound}
use Rattle.rules.proofs.IdentityLaws.{identical-parts}
use Rattle.rules.specs.Ways.{Walk, start, onward, ends}
use Rattle.ways.specs.Graph as over
use Rattle.ways.specs.Levels.{EmbeddedType, at, raw, merge, next, hit}
use Rattle.ways.specs.MethodLevels.{Level, Standing, absent, hidden, given, as_goscript, first_level, reaches, barred, below, settled, standing_from}
use Rattle.ways.specs.OfTable.{graph}
use Rattle.ways.proofs.Merge.{Lawful, Class, any-merge, merge-keep, merge-next}
use Rattle.ways.proofs.Extra.{Apart, merge-apart}
use Rattle.ways.proofs.Same.{Keyed, has, hits, all-next}
use Rattle.ways.proofs.Bridge.{onward-are}
use Rattle.ways.proofs.AllWays.{plain-lawful}
use Rattle.ways.proofs.MethodLevels.{set_level}
use Rattle.ways.proofs.TableLaws.{lawful, keyed, own}
use Rattle.goscript.specs.Consolidate.{consolidate_multiples}
use Rattle.goscript.specs.Maps.{Map, get, contains}
use Rattle.goscript.specs.MethodSets.{MethodCollision, Visit, method_in, field_in, visit_all, add_methods, add_collisions}
use Rattle.goscript.proofs.Consolidating.{consolidate-is}
use Rattle.goscript.proofs.Scans.{skipped}
use Rattle.goscript.proofs.ScanLevels.{kept, saw_all}
use Rattle.goscript.proofs.LookupSame.{saw-all}
use Rattle.goscript.proofs.MapLaws.{or_else, or_else-assoc, or_else-none, loop-keys}
use Rattle.goscript.proofs.Visits.{after_all, visits}
use Rattle.goscript.proofs.Collisions.{add_m, add_f, hit_of, mset-at, fset-at, hits-are}
use Rattle.goscript.proofs.Values.{entry_of, put, value, value-merge}

-- the map after k turns, or fewer if the loop has ended
abbrev pub set_after : Table → ℕ → List TypeKey → Map MethodCollision → List EmbeddedType → Map MethodCollision
set_after T zero seen set L = set
set_after T (suc k) seen set L =
    set_after T k (visit_all T seen L).seen (add_collisions T (visit_all T seen L) (add_methods T (visit_all T seen L) set)) (consolidate_multiples T (visit_all T seen L).next)

module _ (T : Table) (sound : Sound T) where
  law : Lawful (graph T)
  law = lawful T sound

  -- ---- tests that do not tell identical types apart

  barred-class : (reached : List TypeKey) → Class (graph T) (λ u. not (barred T reached u))
  barred-class reached a b h =
      cases (is_named (kind_at T b))
      (λ e. ap (λ u. not (barred T reached u)) (same_key a b (sym (own T sound a b e) ∙ h)))
      (λ e. let n : is_named (kind_at T a) ≡ is_named (kind_at T b) = ap (λ k. eqb k 10) ((identical-parts T sound a b).0 h).kinds in rw (n, e))

  number-class : (u : TypeKey) → is_named (kind_at T u) ≡ true → Class (graph T) (λ a. same_type a u)
  number-class u e a b h = sym (own T sound a u e) ∙ law.chain a b u h ∙ own T sound b u e

  -- ---- a turn

  module _ (t : TypeKey) where
    -- What holds of goscript's level L, d steps down, and of the named types seen before it.
    pub record Turn (d : ℕ) (seen : List TypeKey) (L : List EmbeddedType) : Type 0 where
      pub apart : Apart (graph T) L
      pub current : kept T seen L ≡ merge (graph T) (map raw (set_level T t d).walks)
      pub knows : (u : TypeKey) → skipped T seen u ≡ barred T (set_level T t d).reached u

    pub begin : Turn 0 [] (raw (start T t) ∷ [])
    begin = record { apart = (refl, tt); current = at-start; knows = λ u. refl }
      where
        at-start : kept T [] (raw (start T t) ∷ []) ≡ raw (start T t) ∷ []
        at-start = cases (is_named (kind_at T (start T t).at)) (λ e. rw e) (λ e. rw e)

    module _ (d : ℕ) (seen : List TypeKey) (L : List EmbeddedType) (turn : Turn d seen L) where
      abbrev pub W : List Walk
      W = (set_level T t d).walks

      abbrev pub K : List EmbeddedType
      K = kept T seen L

      pub all-visited : visit_all T seen L ≡ after_all T (record { seen = seen; mset = []; fset = []; next = [] }) K
      all-visited = visits T law L (record { seen = seen; mset = []; fset = []; next = [] }) turn.apart

      met : (u : TypeKey) → is_named (kind_at T u) ≡ true → any (λ r. same_type (at r) u) K ≡ any (same_type u) (map (λ w. w.at) W)
      met u e =
          ap (any (λ r. same_type (at r) u)) turn.current
          ∙ any-merge (graph T) law (λ a. same_type a u) (number-class u e) (map raw W)
          ∙ any-map (λ r. same_type (at r) u) raw W
          ∙ any-ext _ _ (λ w. (plain-lawful T).turn w.at u) W
          ∙ sym (any-map (same_type u) (λ (w : Walk). w.at) W)

      knows_on : (u : TypeKey) → skipped T (saw_all T seen K) u ≡ barred T (reaches T (set_level T t d)) u
      knows_on u =
          cases (is_named (kind_at T u))
          (λ e. rw e (saw-all T u e K seen ∙ ap₂ (λ x y. x || y) (met u e) (rw e at (turn.knows u)) ∙ sym (any_append (same_type u) (map (λ (w : Walk). w.at) W) (set_level T t d).reached)))
          (λ e. rw e)

      next-on : merge (graph T) (flat (next (graph T)) K) ≡ merge (graph T) (map raw (flat (onward T) W))
      next-on =
          ap (λ l. merge (graph T) (flat (next (graph T)) l)) turn.current
          ∙ merge-next (graph T) law (map raw W)
          ∙ ap (merge (graph T)) (sym (all-next (graph T) W) ∙ ap (map raw) (sym (flat-In-ext (onward T) (over.onward (graph T)) W (λ w i. onward-are T w))))

      current-on : kept T (saw_all T seen K) (merge (graph T) (flat (next (graph T)) K)) ≡ merge (graph T) (map raw (set_level T t (suc d)).walks)
      unfolding below
      current-on =
          keep-ext _ (λ r. not (barred T (reaches T (set_level T t d)) (at r))) (λ r. ap not (knows_on (at r))) (merge (graph T) (flat (next (graph T)) K))
          ∙ ap (keep (λ r. not (barred T (reaches T (set_level T t d)) (at r)))) next-on
          ∙ sym (merge-keep (graph T) law (λ u. not (barred T (reaches T (set_level T t d)) u)) (barred-class (reaches T (set_level T t d))) (map raw (flat (onward T) W)))
          ∙ ap (merge (graph T)) (keep-map (λ r. not (barred T (reaches T (set_level T t d)) (at r))) raw (flat (onward T) W))

      pub turn-next : Turn (suc d) (saw_all T seen K) (merge (graph T) (flat (next (graph T)) K))
      unfolding below
      turn-next = record { apart = merge-apart (graph T) law (flat (next (graph T)) K); current = current-on; knows = knows_on }

      pub turn_on : Turn (suc d) (visit_all T seen L).seen (consolidate_multiples T (visit_all T seen L).next)
      turn_on = rw (all-visited, consolidate-is T sound (flat (next (graph T)) K)) turn-next

      module _ (q : Identity) (set : Map MethodCollision) where
        -- the two loops at the end of the turn
        pub loops : get (add_collisions T (visit_all T seen L) (add_methods T (visit_all T seen L) set)) q ≡ or_else (get set q) (put (get (visit_all T seen L).mset q) (get (visit_all T seen L).fset q))
        loops =
            let st = visit_all T seen L in
            loop-keys (λ k. field_in (get st.fset k)) st.fset (add_methods T st set) q (λ e. ap field_in e)
            ∙ ap (λ o. or_else o (field_in (get st.fset q))) (loop-keys (λ k. method_in (get st.mset k) (contains st.fset k)) st.mset set q (λ e. ap (λ m. method_in m (contains st.fset q)) e))
            ∙ or_else-assoc (get set q) (method_in (get st.mset q) (contains st.fset q)) (field_in (get st.fset q))

      -- what the turn puts into base is what the level's ways say
      module _ (q : Identity) (kd : Keyed (graph T) q) (set : Map MethodCollision) where
        level-value : put (get (visit_all T seen L).mset q) (get (visit_all T seen L).fset q) ≡ value T (map (hit_of T q) (keep (hit (graph T) q) K))
        level-value =
            ap (λ (st : Visit). put (get st.mset q) (get st.fset q)) all-visited
            ∙ ap₂ put
            (mset-at T q sound K [] ∙ ap (foldl (add_m T) none) (hits-are T q K kd))
            (fset-at T q sound K [] ∙ ap (foldl (add_f T) none) (hits-are T q K kd))

        pub settles : get (add_collisions T (visit_all T seen L) (add_methods T (visit_all T seen L) set)) q ≡ or_else (get set q) (entry_of T (settled as_goscript T (flat (ends T q) W)))
        settles =
            loops q set
            ∙ ap (or_else (get set q)) (level-value
            ∙ ap (λ l. value T (map (hit_of T q) (keep (hit (graph T) q) l))) turn.current
            ∙ ap (λ l. value T (map (hit_of T q) l)) (sym (merge-keep (graph T) law (has (graph T) q) kd.alike (map raw W)) ∙ ap (merge (graph T)) (keep-map (hit (graph T) q) raw W))
            ∙ value-merge T q (keep (λ w. has (graph T) q w.at) W)
            ∙ ap (λ ws. entry_of T (settled as_goscript T ws)) (sym (hits (graph T) q W kd)))

    -- ---- all turns

    standing_on : (q : Identity) (k : ℕ) (L : Level) → entry_of T (standing_from as_goscript T q (suc k) L) ≡ or_else (entry_of T (settled as_goscript T (flat (ends T q) L.walks))) (entry_of T (standing_from as_goscript T q k (below T L)))
    unfolding standing_from
    standing_on q k L = go (settled as_goscript T (flat (ends T q) L.walks)) refl
      where
        go : (s : Standing) → settled as_goscript T (flat (ends T q) L.walks) ≡ s
            → entry_of T (standing_from as_goscript T q (suc k) L) ≡ or_else (entry_of T (settled as_goscript T (flat (ends T q) L.walks))) (entry_of T (standing_from as_goscript T q k (below T L)))
        go absent e = rw (standing_from, e)
        go hidden e = rw (standing_from, e)
        go (given w) e = rw (standing_from, e)

    after_is : (q : Identity) → Keyed (graph T) q → (k d : ℕ) (seen : List TypeKey) (set : Map MethodCollision) (L : List EmbeddedType) → Turn d seen L
        → get (set_after T k seen set L) q ≡ or_else (get set q) (entry_of T (standing_from as_goscript T q k (set_level T t d)))
    unfolding standing_from
    after_is q kd zero d seen set L turn = sym (or_else-none (get set q))
    after_is q kd (suc k) d seen set L turn =
        after_is q kd k (suc d) _ (add_collisions T (visit_all T seen L) (add_methods T (visit_all T seen L) set)) _ (turn_on d seen L turn)
        ∙ ap (λ o. or_else o (entry_of T (standing_from as_goscript T q k (set_level T t (suc d))))) (settles d seen L turn q kd set)
        ∙ or_else-assoc (get set q) (entry_of T (settled as_goscript T (flat (ends T q) (set_level T t d).walks))) (entry_of T (standing_from as_goscript T q k (set_level T t (suc d))))
        ∙ ap (or_else (get set q)) (sym (standing_on q k (set_level T t d)))

    -- THE MAP SAYS OF A KEY what the rules say, after every number of levels.
    pub after-says : (q : Identity) → is_blank q.name ≡ false → (k : ℕ) → get (set_after T k [] [] (raw (start T t) ∷ [])) q ≡ entry_of T (standing_from as_goscript T q k (first_level T t))
    after-says q real k = after_is q (keyed T sound q real) k 0 [] [] (raw (start T t) ∷ []) begin
