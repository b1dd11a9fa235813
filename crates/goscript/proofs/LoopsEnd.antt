-- Both whiles of lookup.rs end, within `enough_turns`: what they would give out of turns is never given.
use mathlib.Core.Path.{◌≡◌, refl, sym, ap, ◌∙◌}
use mathlib.Core.Bool.{Bool, false}
use mathlib.Core.List.{List, [], ◌∷◌, map}
use Prim.Native.Nat.{ℕ, zero, suc, ◌+◌, ◌≤◌, ◌<◌}
use native.Mathlib.Omega.{arith}
use Rattle.objects.specs.Lists.{keep, flat}
use Rattle.text.specs.Bytes.{is_blank}
use Rattle.objects.specs.declared.TypeKey.{TypeKey}
use Rattle.objects.specs.Table.{Table, size}
use Rattle.rules.specs.Members.{Identity}
use Rattle.rules.specs.Sound.{Sound}
use Rattle.rules.specs.Ways.{start}
use Rattle.ways.specs.Levels.{EmbeddedType, raw, merge, next, hit}
use Rattle.ways.specs.OfTable.{graph}
use Rattle.ways.proofs.ListLaws.{flat_keep}
use Rattle.goscript.specs.Consolidate.{consolidate_multiples}
use Rattle.goscript.specs.Maps.{Map}
use Rattle.goscript.specs.Lookup.{LookupResult, NotFound, enough_turns, turns}
use Rattle.goscript.specs.MethodSets.{MethodCollision, Visit, visit_all, add_methods, add_collisions, base}
use Rattle.goscript.proofs.ScanLevels.{live, kept, saw_all, live_next, firstly}
use Rattle.goscript.proofs.LookupSame.{dead-next, Tied, alive-kept, tied-saw, turns-step}
use Rattle.goscript.proofs.LevelsEnd.{top, level-none}
use Rattle.goscript.proofs.SetsSame.{set_after, Turn, begin, all-visited, turn-next, turn_on}

module _ (T : Table) (sound : Sound T) (t : TypeKey) (in0 : t.0 < size T) where
  -- a level so far down has nothing that was not seen
  nothing-new : (d : ℕ) (seen : List TypeKey) (L : List EmbeddedType) → Turn T sound t d seen L → size T + top T ≤ d → kept T seen L ≡ []
  nothing-new d seen L turn le = turn.current ∙ ap (λ W. merge (graph T) (map raw W)) (level-none T sound t in0 d le)

  -- ---- MethodSet::new

  module _ (out : Map MethodCollision) where
    base-empty : (k : ℕ) (seen : List TypeKey) (set : Map MethodCollision) → base T out k seen set [] ≡ set
    base-empty zero seen set = refl
    base-empty (suc k) seen set = refl

    base_on : (k : ℕ) (seen : List TypeKey) (set : Map MethodCollision) (L : List EmbeddedType)
        → base T out (suc k) seen set L ≡ base T out k (visit_all T seen L).seen (add_collisions T (visit_all T seen L) (add_methods T (visit_all T seen L) set)) (consolidate_multiples T (visit_all T seen L).next)
    base_on k seen set [] = sym (base-empty k seen set)
    base_on k seen set (r ∷ L) = refl

    last-next : (d : ℕ) (seen : List TypeKey) (L : List EmbeddedType) → Turn T sound t d seen L → size T + top T ≤ d → consolidate_multiples T (visit_all T seen L).next ≡ []
    last-next d seen L turn le =
        ap (λ (st : Visit). consolidate_multiples T st.next) (all-visited T sound t d seen L turn)
        ∙ ap (λ K. consolidate_multiples T (flat (next (graph T)) K)) (nothing-new d seen L turn le)

    base-after : (j d : ℕ) (seen : List TypeKey) (set : Map MethodCollision) (L : List EmbeddedType) → Turn T sound t d seen L → size T + top T ≤ d + j
        → base T out (suc j) seen set L ≡ set_after T (suc j) seen set L
    base-after zero d seen set L turn le =
        base_on zero seen set L
        ∙ ap (base T out zero (visit_all T seen L).seen (add_collisions T (visit_all T seen L) (add_methods T (visit_all T seen L) set))) (last-next d seen L turn (omega arith))
    base-after (suc j) d seen set L turn le =
        base_on (suc j) seen set L
        ∙ base-after j (suc d) _ (add_collisions T (visit_all T seen L) (add_methods T (visit_all T seen L) set)) _ (turn_on T sound t d seen L turn) (omega arith)

    -- THE LOOP OF MethodSet::new ENDS
    pub set-ends : (k : ℕ) → enough_turns T ≤ k → base T out k [] [] (raw (start T t) ∷ []) ≡ set_after T k [] [] (raw (start T t) ∷ [])
    set-ends zero le = absurd (omega arith)
    set-ends (suc j) le = base-after j 0 [] [] (raw (start T t) ∷ []) (begin T sound t) (omega arith)

  -- ---- lookup_field_or_method_impl

  module _ (q : Identity) (real : is_blank q.name ≡ false) (a : Bool) (out : LookupResult) where
    -- types that are not pushed push nothing
    nothing-pushed : (seen : List TypeKey) (L : List EmbeddedType) (seen' : List TypeKey) (M : List EmbeddedType) → Tied T sound seen L seen' M → kept T seen' M ≡ []
        → flat (live_next T) (kept T seen L) ≡ []
    nothing-pushed seen L seen' M tied e =
        sym (flat_keep (live_next T) (live T) (kept T seen L) (λ r i dead. ap (keep (live T)) (dead-next T r dead)))
        ∙ ap (flat (live_next T)) (alive-kept T sound seen L seen' M tied ∙ ap (keep (live T)) e)

    same_after : (j d : ℕ) (seen : List TypeKey) (L : List EmbeddedType) (seen' : List TypeKey) (M : List EmbeddedType)
        → Tied T sound seen L seen' M → Turn T sound t d seen' M → size T + top T ≤ d + j
        → turns T q out a (suc j) seen L ≡ turns T q NotFound a (suc j) seen L
    same_after zero d seen L seen' M tied turn le =
        let e = nothing-pushed seen L seen' M tied (nothing-new d seen' M turn (omega arith)) in
        turns-step T sound q real a out zero seen L tied.apart
        ∙ ap (λ l. firstly T q a (keep (hit (graph T) q) (kept T seen L)) (turns T q out a zero (saw_all T seen (kept T seen L)) (consolidate_multiples T l))) e
        ∙ sym (turns-step T sound q real a NotFound zero seen L tied.apart
        ∙ ap (λ l. firstly T q a (keep (hit (graph T) q) (kept T seen L)) (turns T q NotFound a zero (saw_all T seen (kept T seen L)) (consolidate_multiples T l))) e)
    same_after (suc j) d seen L seen' M tied turn le =
        turns-step T sound q real a out (suc j) seen L tied.apart
        ∙ ap (firstly T q a (keep (hit (graph T) q) (kept T seen L)))
        (same_after j (suc d) _ _ _ _ (tied-saw T sound seen L seen' M tied turn.apart) (turn-next T sound t d seen' M turn) (omega arith))
        ∙ sym (turns-step T sound q real a NotFound (suc j) seen L tied.apart)

    -- THE LOOP OF lookup_field_or_method_impl ENDS
    pub lookup-ends : (k : ℕ) → enough_turns T ≤ k → turns T q out a k [] (raw (start T t) ∷ []) ≡ turns T q NotFound a k [] (raw (start T t) ∷ [])
    lookup-ends zero le = absurd (omega arith)
    lookup-ends (suc j) le = same_after j 0 [] (raw (start T t) ∷ []) [] (raw (start T t) ∷ []) (record { apart = (refl, tt); alive = refl; knows = λ u. refl }) (begin T sound t) (omega arith)
