-- THE DEPARTURE LEVEL BY LEVEL, with no bound: what goscript's method set has and M has not is exactly what lies below a field (`gone`), where the type's set is
-- not empty.
use mathlib.Core.Path.{◌≡◌, refl, sym, ap, ◌∙◌, subst}
use mathlib.Core.Bool.{true, false, not, ◌&&◌, ◌||◌}
use mathlib.Core.List.{List, [], ◌∷◌}
use mathlib.Core.Logic.{◌⊎◌, inl, inr, ◌↔◌}
use Prim.Native.Nat.{ℕ, zero, suc, ◌+◌, ◌<◌}
use native.Mathlib.Omega.{arith}
use Rattle.objects.specs.Lists.{In}
use Rattle.objects.proofs.ListLaws.{cases, clash, either, and_l, In-flat, flat-In-to}
use Rattle.objects.specs.declared.TypeKey.{TypeKey}
use Rattle.objects.specs.Table.{Table, size, is_method, has_ptr, named_pointer}
use Rattle.rules.specs.Members.{Identity, identity_of}
use Rattle.rules.specs.Sound.{Sound}
use Rattle.rules.specs.Ways.{Way, member_of}
use Rattle.rules.specs.MethodSet.{method_flag, callable, method_names, empty_set, method_set}
use Rattle.rules.proofs.MethodNames.{names-listed}
use Rattle.ways.specs.MethodLevels.{Level, listed, Rule, as_goscript, as_go, to_interface, first_level, below, settled, standing_from, standing, set_by_levels}
use Rattle.ways.proofs.TableLaws.{closed, bare-in}
use Rattle.ways.proofs.MethodLevels.{listed-given, enough-levels}
use Rattle.ways.proofs.LevelSets.{set-by-levels}
use Rattle.goscript.specs.Departures.{one_field, on_level, GivenFrom, here, past-none, past-field, BelowField, beneath, deeper}
use Rattle.goscript.proofs.MethodSetIs.{given-named}
use Rattle.goscript.proofs.Departed.{standing-named, empty-still}

-- ---- one name

pub one-field : (ws : List Way) → one_field ws ≡ true → (w : Way) × (ws ≡ w ∷ []) × (is_method (member_of w).entity ≡ false)
one-field [] h = clash h refl
one-field (w ∷ []) h = (w, refl, cases (is_method (member_of w).entity) (λ m. clash h (rw m)) (λ m. m))
one-field (w ∷ v ∷ ws) h = clash h refl

module _ (T : Table) (q : Identity) where
  -- a level that has none leaves the name to the next, by either rule
  none-on : (rule : Rule) (k : ℕ) (L : Level) → on_level T q L ≡ [] → standing_from rule T q (suc k) L ≡ standing_from rule T q k (below T L)
  unfolding standing_from settled
  none-on rule k L e = rw (standing_from, e)

  -- so does one field by goscript's rule,
  field-on : (k : ℕ) (L : Level) → one_field (on_level T q L) ≡ true → standing_from as_goscript T q (suc k) L ≡ standing_from as_goscript T q k (below T L)
  unfolding standing_from settled
  field-on k L f = let o = one-field (on_level T q L) f in rw (standing_from, o.1, o.2)

  -- and hides it with point 2
  field-hides : (k : ℕ) (L : Level) → one_field (on_level T q L) ≡ true → listed (standing_from as_go T q (suc k) L) ≡ []
  unfolding standing_from settled
  field-hides k L f = let o = one-field (on_level T q L) f in rw (standing_from, o.1, o.2)

  -- either rule gives the only way, if it ends in a method that may be called
  given-here : (rule : Rule) (k : ℕ) (L : Level) (w : Way) → on_level T q L ≡ w ∷ [] → callable T w ≡ true → In w (listed (standing_from rule T q (suc k) L))
  unfolding standing_from settled callable
  given-here rule k L w e c =
      let m : is_method (member_of w).entity ≡ true = and_l (is_method (member_of w).entity) (not (has_ptr (member_of w).entity && not (method_flag T w))) c in
      cases (has_ptr (member_of w).entity && not (method_flag T w))
      (λ r. clash c (rw (m, r)))
      (λ r. rw (standing_from, e, m, r) (inl refl))

  -- what goscript gives from a level on: this level gives it, or leaves it to the next, for it has none or one field
  data Turn (k : ℕ) (L : Level) (w : Way) : Type 0 where
    at_once : on_level T q L ≡ w ∷ [] → callable T w ≡ true → Turn k L w
    by-none : on_level T q L ≡ [] → In w (listed (standing_from as_goscript T q k (below T L))) → Turn k L w
    by-field : one_field (on_level T q L) ≡ true → In w (listed (standing_from as_goscript T q k (below T L))) → Turn k L w

  turn : (k : ℕ) (L : Level) (w : Way) → In w (listed (standing_from as_goscript T q (suc k) L)) → Turn k L w
  unfolding standing_from settled callable
  turn k L w i = go (on_level T q L) refl
    where
      go : (ws : List Way) → on_level T q L ≡ ws → Turn k L w
      go [] e = by-none e (rw (standing_from, e) at i)
      go (v ∷ []) e =
          cases (is_method (member_of v).entity)
          (λ m. cases (has_ptr (member_of v).entity && not (method_flag T v))
          (λ r. let j : In w [] = rw (standing_from, e, m, r) at i in absurd j)
          (λ r. let j : In w (v ∷ []) = rw (standing_from, e, m, r) at i in either j (λ z. rw z (at_once e (rw (m, r)))) (λ z. absurd z)))
          (λ m. by-field (ap one_field e ∙ ap not m) (rw (standing_from, e, m) at i))
      go (v ∷ u ∷ ws) e = let j : In w [] = rw (standing_from, e) at i in absurd j

  -- what goscript gives by k levels it gives
  given-from : (k : ℕ) (L : Level) (w : Way) → In w (listed (standing_from as_goscript T q k L)) → GivenFrom T q L w
  unfolding standing_from
  given-from zero L w i = absurd i
  given-from (suc k) L w i = elim (turn k L w i) [
    | at_once e c ↦ here e c
    | by-none e j ↦ past-none e (given-from k (below T L) w j)
    | by-field f j ↦ past-field f (given-from k (below T L) w j)
  ]

  -- and so it does by every number of levels that is large enough
  abbrev Enough : Level → Way → Type 0
  Enough L w = (n : ℕ) × ((k : ℕ) → n < k → In w (listed (standing_from as_goscript T q k L)))

  one_more : (L : Level) (w : Way) → ((k : ℕ) → standing_from as_goscript T q (suc k) L ≡ standing_from as_goscript T q k (below T L)) → Enough (below T L) w → Enough L w
  one_more L w on m = (suc m.0, go)
    where
      go : (k : ℕ) → suc m.0 < k → In w (listed (standing_from as_goscript T q k L))
      go zero l = absurd (omega arith)
      go (suc k) l = rw (on k) (m.1 k (omega arith))

  from-given : {L : Level} {w : Way} → GivenFrom T q L w → Enough L w
  from-given (here {L = L} {w = w} e c) = (0, go)
    where
      go : (k : ℕ) → 0 < k → In w (listed (standing_from as_goscript T q k L))
      go zero l = absurd (omega arith)
      go (suc k) l = given-here as_goscript k L w e c
  from-given (past-none {L = L} {w = w} e g) = one_more L w (λ k. none-on as_goscript k L e) (from-given g)
  from-given (past-field {L = L} {w = w} f g) = one_more L w (λ k. field-on k L f) (from-given g)

  -- it lies below a field, or point 2 gives it by as many levels
  below-or-given : (k : ℕ) (L : Level) (w : Way) → In w (listed (standing_from as_goscript T q k L)) → BelowField T q L w ⊎ In w (listed (standing_from as_go T q k L))
  unfolding standing_from
  below-or-given zero L w i = absurd i
  below-or-given (suc k) L w i = elim (turn k L w i) [
    | at_once e c ↦ inr (given-here as_go k L w e c)
    | by-none e j ↦ either (below-or-given k (below T L) w j) (λ b. inl (deeper e b)) (λ g. inr (rw (none-on as_go k L e) g))
    | by-field f j ↦ inl (beneath f (given-from k (below T L) w j))
  ]

  below-given : {L : Level} {w : Way} → BelowField T q L w → GivenFrom T q L w
  below-given (beneath f g) = past-field f g
  below-given (deeper e b) = past-none e (below-given b)

  -- point 2 gives nothing of it
  below-hidden : {L : Level} {w : Way} → BelowField T q L w → (k : ℕ) → listed (standing_from as_go T q k L) ≡ []
  unfolding standing_from
  below-hidden (beneath f g) zero = refl
  below-hidden (beneath {L = L} f g) (suc k) = field-hides k L f
  below-hidden (deeper e b) zero = refl
  below-hidden (deeper {L = L} e b) (suc k) = ap listed (none-on as_go k L e) ∙ below-hidden b k

-- ---- the set

module _ (T : Table) (sound : Sound T) (t : TypeKey) (in0 : t.0 < size T) (some : named_pointer T t || to_interface as_goscript T t ≡ false) where
  -- GOSCRIPT'S METHOD SET HAS w exactly if its rule gives w, by whatever number of levels.
  pub goscript-lists : (w : Way) → In w (set_by_levels as_goscript T t) ↔ GivenFrom T (identity_of T (member_of w)) (first_level T t) w
  unfolding set_by_levels standing
  goscript-lists w = (to, from)
    where
      q : Identity
      q = identity_of T (member_of w)

      to : In w (set_by_levels as_goscript T t) → GivenFrom T q (first_level T t) w
      to i =
          let j = In-flat (λ p. listed (standing as_goscript T p t)) (method_names T) w (rw some at i) in
          subst (λ (p : Identity). GivenFrom T p (first_level T t) w) (sym (standing-named as_goscript T j.0 t w j.2)) (given-from T j.0 (size T) (first_level T t) w j.2)

      from : GivenFrom T q (first_level T t) w → In w (set_by_levels as_goscript T t)
      from g =
          let n = from-given T q g in
          let k = size T + suc n.0 in
          let i : In w (listed (standing as_goscript T q t)) = subst (In w) (enough-levels as_goscript T (closed T sound) q t (bare-in T sound t in0) k (omega arith)) (n.1 k (omega arith)) in
          rw some (flat-In-to (λ p. listed (standing as_goscript T p t)) (method_names T) q w ((names-listed T q).1 (given-named T sound t q w (listed-given (standing as_goscript T q t) w i))) i)

module _ (T : Table) (sound : Sound T) (t : TypeKey) (in0 : t.0 < size T) (some : empty_set T t ≡ false) where
  -- WHAT M DOES NOT HAVE OF IT LIES BELOW A FIELD.
  pub gone : (w : Way) → (In w (set_by_levels as_goscript T t) × (In w (method_set T t) → ⊥)) ↔ BelowField T (identity_of T (member_of w)) (first_level T t) w
  unfolding set_by_levels standing
  gone w = (to, from)
    where
      q : Identity
      q = identity_of T (member_of w)

      to : In w (set_by_levels as_goscript T t) × (In w (method_set T t) → ⊥) → BelowField T q (first_level T t) w
      to h =
          let j = In-flat (λ p. listed (standing as_goscript T p t)) (method_names T) w (rw (empty-still T t some) at h.0) in
          either (below-or-given T j.0 (size T) (first_level T t) w j.2)
          (λ b. subst (λ (p : Identity). BelowField T p (first_level T t) w) (sym (standing-named as_goscript T j.0 t w j.2)) b)
          (λ i. absurd (h.1 (rw (set-by-levels T t, some) (flat-In-to (λ p. listed (standing as_go T p t)) (method_names T) j.0 w j.1 i))))

      from : BelowField T q (first_level T t) w → In w (set_by_levels as_goscript T t) × (In w (method_set T t) → ⊥)
      from b = ((goscript-lists T sound t in0 (empty-still T t some) w).1 (below-given T q b), not_there)
        where
          not_there : In w (method_set T t) → ⊥
          not_there i =
              let j = In-flat (λ p. listed (standing as_go T p t)) (method_names T) w (rw (set-by-levels T t, some) at i) in
              let z : In w (listed (standing as_go T q t)) = subst (λ (p : Identity). In w (listed (standing as_go T p t))) (sym (standing-named as_go T j.0 t w j.2)) j.2 in
              subst (In w) (below-hidden T q b (size T)) z
