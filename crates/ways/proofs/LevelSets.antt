-- M by levels with point 2 is the rules' M, for every table (`set-by-levels`). Where no shorter way is, a level of M has all ways of its length (`level-ways`); so how
-- a name stands is what its shortest ways make of it, unless they leave it absent (`standing-decided`), and with point 2 they never do.
use mathlib.Core.Path.{◌≡◌, refl, sym, ap, ◌∙◌, subst}
use mathlib.Core.Bool.{true, false, cond, not, ◌&&◌}
use mathlib.Core.List.{List, [], ◌∷◌, map, cons≢nil}
use Prim.Native.Nat.{ℕ, zero, suc, ◌<◌}
use native.Mathlib.Omega.{arith}
use native.Mathlib.Decide.{dec_lt}
use Rattle.objects.specs.Lists.{flat}
use Rattle.objects.proofs.ListLaws.{cases, clash, or_l, un_not, flat-In-ext}
use Rattle.objects.specs.declared.TypeKey.{TypeKey}
use Rattle.objects.specs.Table.{Table, size, is_method, has_ptr}
use Rattle.rules.specs.Members.{Identity}
use Rattle.rules.specs.Ways.{Walk, Way, member_of, start, walks, ends, ways, shortest}
use Rattle.rules.specs.MethodSet.{method_flag, callable, only_method, method_names, empty_set, method_set}
use Rattle.ways.specs.Graph as over
use Rattle.ways.specs.OfTable.{graph}
use Rattle.ways.specs.MethodLevels.{Standing, absent, hidden, given, listed, Rule, as_goscript, as_go, by_field, settled, standing_from, standing, set_by_levels}
use Rattle.ways.proofs.ListLaws.{flat_keep}
use Rattle.ways.proofs.Numbered.{none-sooner}
use Rattle.ways.proofs.Bridge.{ways-are}
use Rattle.ways.proofs.LevelTest.{shortest-are}
use Rattle.ways.proofs.MethodLevels.{set_level, new, new-level, is_absent, settled-absent}

-- where no shorter way is, the ways that M's level has are all ways of its length
pub level-ways : (T : Table) (t : TypeKey) (q : Identity) (d : ℕ) → ((j : ℕ) → j < d → ways T q t j ≡ []) → flat (ends T q) (set_level T t d).walks ≡ ways T q t d
unfolding ways
level-ways T t q d h =
    sym (flat_keep (ends T q) (new T t d) (set_level T t d).walks (λ w i e. old w e))
    ∙ ap (flat (ends T q)) (new-level T t d)
    ∙ flat_keep (ends T q) (new T t d) (walks T t d) (λ w i e. old w e)
  where
    old : (w : Walk) → new T t d w ≡ false → ends T q w ≡ []
    old w e = ap (map (λ p. record { walk = w; last = p })) (none-sooner (graph T) (start T t) q d (λ j l. sym (ways-are T q t j) ∙ h j l) w.at (un_not _ e))

module _ (rule : Rule) (T : Table) where
  -- ways that leave their name absent are none
  abbrev pub Decide : List Way → Type 0
  Decide ws = is_absent (settled rule T ws) ≡ true → ws ≡ []

  -- what is settled the levels below do not change
  stays : (s below : Standing) → is_absent s ≡ false → elim s as (λ x. Standing) [ absent ↦ below | hidden ↦ hidden | given v ↦ given v ] ≡ s
  stays absent below h = clash refl h
  stays hidden below h = refl
  stays (given w) below h = refl

  -- either rule gives the only way, if it ends in a method that may be called
  settled-listed : (ws : List Way) → listed (settled rule T ws) ≡ only_method T ws
  unfolding settled only_method callable
  settled-listed [] = refl
  settled-listed (w ∷ []) =
      cases (is_method (member_of w).entity)
      (λ m. cases (has_ptr (member_of w).entity && not (method_flag T w)) (λ r. rw (m, r)) (λ r. rw (m, r)))
      (λ m. rw m (by-field rule))
    where
      by-field : (r : Rule) → listed (by_field r) ≡ []
      by-field as_goscript = refl
      by-field as_go = refl
  settled-listed (w ∷ v ∷ ws) = refl

  module _ (t : TypeKey) (q : Identity) where
    abbrev shortest_at : ℕ → ℕ → List Way
    shortest_at d k = over.shortest (graph T) q (start T t) d k

    standing-from : (k d : ℕ) → ((j : ℕ) → j < d → ways T q t j ≡ []) → Decide (shortest_at d k) → standing_from rule T q k (set_level T t d) ≡ settled rule T (shortest_at d k)
    unfolding standing_from settled
    standing-from zero d h decide = refl
    standing-from (suc k) d h decide = go (ways T q t d) refl (standing-from k (suc d))
      where
        go : (ws : List Way) → ways T q t d ≡ ws
            → (((j : ℕ) → j < suc d → ways T q t j ≡ []) → Decide (shortest_at (suc d) k) → standing_from rule T q k (set_level T t (suc d)) ≡ settled rule T (shortest_at (suc d) k))
            → standing_from rule T q (suc k) (set_level T t d) ≡ settled rule T (shortest_at d (suc k))
        go [] e ih =
            rw (level-ways T t q d h ∙ e, standing_from, sym (ways-are T q t d) ∙ e, over.shortest)
            (ih (λ j l. elim (dec_lt j d) [ yes m ↦ h j m | no m ↦ let s : j ≡ d = omega arith in rw s e ]) (rw (sym (ways-are T q t d) ∙ e, over.shortest) at decide))
        go (w ∷ ws) e ih =
            rw (level-ways T t q d h ∙ e, standing_from, sym (ways-are T q t d) ∙ e, over.shortest)
            (stays (settled rule T (w ∷ ws)) _ (present (rw (sym (ways-are T q t d) ∙ e, over.shortest) at decide)))
          where
            present : Decide (w ∷ ws) → is_absent (settled rule T (w ∷ ws)) ≡ false
            present p = cases (is_absent (settled rule T (w ∷ ws))) (λ a. absurd (cons≢nil (p a))) (λ a. a)

    -- A NAME THAT ITS SHORTEST WAYS DECIDE: M by levels lists what they give.
    pub standing-decided : Decide (shortest T q t) → listed (standing rule T q t) ≡ only_method T (shortest T q t)
    unfolding standing
    standing-decided decide =
        ap listed (standing-from (size T) 0 (λ j l. absurd (omega arith)) (subst Decide (shortest-are T t q) decide) ∙ ap (settled rule T) (sym (shortest-are T t q)))
        ∙ settled-listed (shortest T q t)

-- with point 2 whatever ways there are decide
go-decides : (T : Table) (ws : List Way) → Decide as_go T ws
unfolding settled
go-decides T [] h = refl
go-decides T (w ∷ []) h = let m : is_method (member_of w).entity ≡ false = or_l (is_method (member_of w).entity) false (settled-absent as_go T (w ∷ []) h) in clash h (rw m)
go-decides T (w ∷ v ∷ ws) h = clash h refl

-- HOW A NAME STANDS WITH POINT 2 is what its shortest ways make of it.
pub standing-shortest : (T : Table) (t : TypeKey) (q : Identity) → listed (standing as_go T q t) ≡ only_method T (shortest T q t)
standing-shortest T t q = standing-decided as_go T t q (go-decides T (shortest T q t))

-- THE RULES' M IS DOCUMENT 01'S LEVELS WITH POINT 2.
pub set-by-levels : (T : Table) (t : TypeKey) → method_set T t ≡ set_by_levels as_go T t
unfolding method_set set_by_levels
set-by-levels T t = ap (cond (empty_set T t) []) (flat-In-ext (λ q. only_method T (shortest T q t)) (λ q. listed (standing as_go T q t)) (method_names T) (λ q i. sym (standing-shortest T t q)))
