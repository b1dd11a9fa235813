-- Laws of M by levels, by either rule: what a level reaches for the first time is what all walks reach for the first time (`new-level`), so as many levels are enough
-- as there are types (`enough-levels`); and what is given is a way that ends in a method (`given-way`).
use mathlib.Core.Path.{◌≡◌, refl, sym, ap, ◌∙◌, subst}
use mathlib.Core.Bool.{Bool, true, false, not, ◌&&◌}
use mathlib.Core.List.{List, [], ◌∷◌, map}
use mathlib.Core.Logic.{inl, inr}
use Prim.Native.Nat.{ℕ, zero, suc, ◌+◌, ◌≤◌, ◌<◌}
use native.Mathlib.Omega.{arith}
use Rattle.objects.specs.Lists.{any, keep, flat, In, head_or}
use Rattle.objects.proofs.ListLaws.{cases, clash, or-true, and_l, any-ext, any-map, any-flat, any_append, any_none, any-In, none-In, some-In, In-keep, In-flat, keep-flat, keep-weaker, keep-In-to, un_not, flat-In-to, map-In-to}
use Rattle.objects.proofs.KeyLaws.{same_key, same_self}
use Rattle.objects.specs.declared.TypeKey.{TypeKey}
use Rattle.objects.specs.Table.{Table, size, same_type, is_method, has_ptr, is_named, kind_at, bare}
use Rattle.rules.specs.Members.{Identity, identity_of, same_id}
use Rattle.rules.specs.Ways.{Walk, Way, member_of, start, along, embedded, owned, onward, walks, matching, ends, ways}
use Rattle.rules.specs.MethodSet.{method_flag, callable}
use Rattle.ways.specs.Graph as over
use Rattle.ways.specs.OfTable.{step_of}
use Rattle.ways.specs.IsWay.{IsWay}
use Rattle.ways.specs.MethodLevels.{Level, Standing, absent, hidden, given, listed, Rule, as_goscript, as_go, by_field, first_level, reaches, barred, below, settled, standing_from, standing}
use Rattle.ways.proofs.Same.{reached, reached-on}
use Rattle.ways.proofs.Bound.{Closed, bound}
use Rattle.ways.proofs.Bridge.{walks-are}
use Rattle.ways.proofs.AllWays.{ways-listed, plain, plain-lawful}

-- ---- levels

module _ (T : Table) (t : TypeKey) where
  -- the level that M comes to after d steps
  abbrev pub set_level : ℕ → Level
  set_level zero = first_level T t
  set_level (suc d) = below T (set_level d)

  -- a level's walks are walks
  level-walks : (d : ℕ) (w : Walk) → In w (set_level d).walks → In w (walks T t d)
  unfolding below walks
  level-walks zero w i = i
  level-walks (suc d) w i =
      let j = In-keep (λ x. not (barred T (reaches T (set_level d)) x.at)) (flat (onward T) (set_level d).walks) w i in
      let v = In-flat (onward T) (set_level d).walks w j.0 in
      flat-In-to (onward T) (walks T t d) v.0 w (level-walks d v.0 v.1) v.2

  -- fewer than d steps reach the type
  abbrev pub sooner : ℕ → TypeKey → Bool
  sooner = reached (plain T) (start T t)

  -- no fewer than d steps reach the walk's type
  abbrev pub new : ℕ → Walk → Bool
  new d w = not (sooner d w.at)

  walk-reached : (d : ℕ) (w : Walk) → In w (walks T t d) → sooner (suc d) w.at ≡ true
  walk-reached d w i =
      rw (any-In (λ x. same_type x.at w.at) (over.walks (plain T) (start T t) d) w (subst (In w) (walks-are T t d) i) (same_self w.at), or-true (sooner d w.at))

  -- what the levels before reached is reached by fewer steps
  seen-reached : (d : ℕ) (u : TypeKey) → any (same_type u) (set_level d).reached ≡ true → sooner d u ≡ true
  unfolding below
  seen-reached zero u h = h
  seen-reached (suc d) u h =
      cases (any (λ (w : Walk). same_type u w.at) (set_level d).walks)
      (λ e. let w = some-In (λ (w : Walk). same_type u w.at) (set_level d).walks e in found w.0 (level-walks d w.0 w.1) w.2)
      (λ e. rw (seen-reached d u (rw (any_append (same_type u) (map (λ (w : Walk). w.at) (set_level d).walks) (set_level d).reached, any-map (same_type u) (λ (w : Walk). w.at) (set_level d).walks, e) at h)))
    where
      found : (w : Walk) → In w (walks T t d) → same_type u w.at ≡ true → sooner (suc d) u ≡ true
      found w i e = ap (sooner (suc d)) (same_key u w.at e) ∙ walk-reached d w i

  not_new : (d : ℕ) (w : Walk) → new d w ≡ false → any (new (suc d)) (onward T w) ≡ false
  unfolding onward
  not_new d w h =
      any-map (new (suc d)) (along T w) (embedded T w.at)
      ∙ any_none _ (embedded T w.at) (λ p i. ap not (reached-on (plain T) (plain-lawful T) (start T t) d w.at (step_of T p) (un_not (sooner d w.at) h) (map-In-to (step_of T) (embedded T w.at) p i)))

  new-enters : (d : ℕ) (w : Walk) → new (suc d) w ≡ true → not (barred T (reaches T (set_level d)) w.at) ≡ true
  unfolding below
  new-enters d w h =
      cases (any (same_type w.at) (reaches T (set_level d)))
      (λ e. clash h (ap not (seen-reached (suc d) w.at e)))
      (λ e. cases (is_named (kind_at T w.at)) (λ o. rw (e, o)) (λ o. rw (e, o)))

  -- THE WALKS OF A LEVEL TO TYPES THAT NO FEWER STEPS REACH are all such walks.
  pub new-level : (d : ℕ) → keep (new d) (set_level d).walks ≡ keep (new d) (walks T t d)
  unfolding below walks
  new-level zero = refl
  new-level (suc d) =
      keep-weaker (new (suc d)) (λ w. not (barred T (reaches T (set_level d)) w.at)) (new-enters d) (flat (onward T) (set_level d).walks)
      ∙ sym (keep-flat (new (suc d)) (new d) (onward T) (not_new d) (set_level d).walks)
      ∙ ap (λ l. keep (new (suc d)) (flat (onward T) l)) (new-level d)
      ∙ keep-flat (new (suc d)) (new d) (onward T) (not_new d) (walks T t d)

  -- a walk of a level to a type reached for the first time has fewer steps than there are types
  pub new-short : Closed (plain T) → (bare T t).0 < size T → (d : ℕ) (w : Walk) → In w (set_level d).walks → sooner d w.at ≡ false → d < size T
  new-short closed in0 d w i h = bound (plain T) (plain-lawful T) closed (start T t) in0 d w (subst (In w) (walks-are T t d) (level-walks d w i)) h

-- the ways to the name that the level after d steps has
abbrev ends_at : Table → Identity → TypeKey → ℕ → List Way
ends_at T q t d = flat (ends T q) (set_level T t d).walks

-- ---- a method settles its name, and only a method gives it

abbrev pub is_absent : Standing → Bool
is_absent absent = true
is_absent hidden = false
is_absent (given w) = false

abbrev is_given : Standing → Bool
is_given absent = false
is_given hidden = false
is_given (given w) = true

pub listed-given : (s : Standing) (w : Way) → In w (listed s) → s ≡ given w
listed-given absent w i = absurd i
listed-given hidden w i = absurd i
listed-given (given v) w (inl e) = ap given (sym e)
listed-given (given v) w (inr i) = absurd i

abbrev ends_in_method : Way → Bool
ends_in_method w = is_method (member_of w).entity

pub callable-method : (T : Table) (w : Way) → callable T w ≡ true → is_method (member_of w).entity ≡ true
unfolding callable
callable-method T w c = and_l (ends_in_method w) (not (has_ptr (member_of w).entity && not (method_flag T w))) c

field-gives-none : (rule : Rule) → is_given (by_field rule) ≡ false
field-gives-none as_goscript = refl
field-gives-none as_go = refl

module _ (rule : Rule) (T : Table) where
  -- where a name is left absent, no way ends in a method
  pub settled-absent : (ws : List Way) → is_absent (settled rule T ws) ≡ true → any ends_in_method ws ≡ false
  unfolding settled
  settled-absent [] h = refl
  settled-absent (w ∷ []) h =
      cases (ends_in_method w)
      (λ e. cases (has_ptr (member_of w).entity && not (method_flag T w)) (λ b. clash h (rw (e, b))) (λ b. clash h (rw (e, b))))
      (λ e. rw e)
  settled-absent (w ∷ v ∷ ws) h = clash h refl

  settled-given : (ws : List Way) (w : Way) → settled rule T ws ≡ given w → (ws ≡ w ∷ []) × (callable T w ≡ true)
  unfolding settled callable
  settled-given [] w h = clash (ap is_given h) refl
  settled-given (v ∷ []) w h =
      cases (ends_in_method v)
      (λ e. cases (has_ptr (member_of v).entity && not (method_flag T v))
      (λ b. clash (ap is_given h) (rw (e, b)))
      (λ b. let same : v ≡ w = ap (λ s. head_or w (listed s)) (rw (e, b) at h) in rw (← same) (refl, rw (e, b))))
      (λ e. clash (ap is_given h) (rw e (field-gives-none rule)))
  settled-given (v ∷ u ∷ ws) w h = clash (ap is_given h) refl

  -- ---- what is given

  module _ (q : Identity) (t : TypeKey) where
    at_level : (d : ℕ) (w : Way) → ends_at T q t d ≡ w ∷ [] → IsWay T q t d w
    unfolding ways
    at_level d w e =
        let v = In-flat (ends T q) (set_level T t d).walks w (subst (In w) (sym e) (inl refl)) in
        (ways-listed T t q d w).0 (flat-In-to (ends T q) (walks T t d) v.0 w (level-walks T t d v.0 v.1) v.2)

    given-from : (k d : ℕ) (w : Way) → standing_from rule T q k (set_level T t d) ≡ given w → (e : ℕ) × IsWay T q t e w × (callable T w ≡ true)
    unfolding standing_from
    given-from zero d w h = clash (ap is_given h) refl
    given-from (suc k) d w h = go (settled rule T (ends_at T q t d)) refl (given-from k (suc d) w)
      where
        go : (s : Standing) → settled rule T (ends_at T q t d) ≡ s
            → (standing_from rule T q k (set_level T t (suc d)) ≡ given w → (e : ℕ) × IsWay T q t e w × (callable T w ≡ true)) → (e : ℕ) × IsWay T q t e w × (callable T w ≡ true)
        go absent e ih = ih (rw (standing_from, e) at h)
        go hidden e ih = clash (ap is_given (rw (standing_from, e) at h)) refl
        go (given v) e ih =
            let same : v ≡ w = ap (λ s. head_or w (listed s)) (rw (standing_from, e) at h) in
            let g = settled-given (ends_at T q t d) w (e ∙ ap given same) in
            (d, at_level d w g.0, g.1)

    -- WHAT M GIVES IS A WAY, and it ends in a method that may be called.
    pub given-way : (w : Way) → standing rule T q t ≡ given w → (d : ℕ) × IsWay T q t d w × (callable T w ≡ true)
    unfolding standing
    given-way w h = given-from (size T) 0 w h

-- ---- as many levels as there are types

abbrev has_method : Table → Identity → TypeKey → Bool
has_method T q t = any (λ p. same_id (identity_of T p.member) q && is_method p.member.entity) (owned T t)

any-kept : {A : Type 0} (p q : A → Bool) (l : List A) → any p (keep q l) ≡ any (λ x. q x && p x) l
any-kept p q [] = refl
any-kept p q (x ∷ xs) = cases (q x) (λ e. rw (e, any-kept p q xs)) (λ e. rw (e, any-kept p q xs))

module _ (T : Table) (q : Identity) where
  any-ends : (W : List Walk) → any ends_in_method (flat (ends T q) W) ≡ any (λ w. has_method T q w.at) W
  any-ends W =
      any-flat ends_in_method (ends T q) W
      ∙ any-ext _ _ (λ w. any-map ends_in_method (λ m. record { walk = w; last = m }) (matching T q w.at) ∙ any-kept (λ m. is_method m.member.entity) (λ m. same_id (identity_of T m.member) q) (owned T w.at)) W

module _ (rule : Rule) (T : Table) (closed : Closed (plain T)) (q : Identity) (t : TypeKey) (in0 : (bare T t).0 < size T) where
  -- fewer than d steps lead to no type with a method of the name
  abbrev NoMethod : ℕ → Type 0
  NoMethod d = (u : TypeKey) → sooner T t d u ≡ true → has_method T q u ≡ false

  no-method-on : (d : ℕ) → NoMethod d → any ends_in_method (ends_at T q t d) ≡ false → NoMethod (suc d)
  no-method-on d nm e u h =
      cases (sooner T t d u)
      (λ f. nm u f)
      (λ f. let w = some-In (λ (x : Walk). same_type x.at u) (over.walks (plain T) (start T t) d) (rw f at h) in found w.0 (subst (In w.0) (sym (walks-are T t d)) w.1) (same_key w.0.at u w.2) f)
    where
      found : (w : Walk) → In w (walks T t d) → w.at ≡ u → sooner T t d u ≡ false → has_method T q u ≡ false
      found w i s f =
          let n : new T t d w ≡ true = ap not (ap (sooner T t d) s ∙ f) in
          let j : In w (keep (new T t d) (set_level T t d).walks) = rw (new-level T t d) (keep-In-to (new T t d) (walks T t d) w i n) in
          ap (has_method T q) (sym s) ∙ none-In (λ (x : Walk). has_method T q x.at) (set_level T t d).walks w (sym (any-ends T q (set_level T t d).walks) ∙ e) (In-keep (new T t d) (set_level T t d).walks w j).0

  -- beyond the number of types no level reaches a first method of the name
  no-method-beyond : (d : ℕ) → size T ≤ d → NoMethod d → any ends_in_method (ends_at T q t d) ≡ false
  no-method-beyond d le nm = any-ends T q (set_level T t d).walks ∙ any_none _ (set_level T t d).walks (λ w i.
      cases (sooner T t d w.at)
      (λ e. nm w.at e)
      (λ e. let b = new-short T t closed in0 d w i e in absurd (omega arith)))

  never-given : (k d : ℕ) → size T ≤ d → NoMethod d → listed (standing_from rule T q k (set_level T t d)) ≡ []
  unfolding standing_from
  never-given zero d le nm = refl
  never-given (suc k) d le nm = go (settled rule T (ends_at T q t d)) refl (λ n. never-given k (suc d) (omega arith) n)
    where
      go : (s : Standing) → settled rule T (ends_at T q t d) ≡ s → (NoMethod (suc d) → listed (standing_from rule T q k (set_level T t (suc d))) ≡ []) → listed (standing_from rule T q (suc k) (set_level T t d)) ≡ []
      go absent e ih = rw (standing_from, e) (ih (no-method-on d nm (no-method-beyond d le nm)))
      go hidden e ih = rw (standing_from, e)
      go (given w) e ih =
          let g = settled-given rule T (ends_at T q t d) w e in
          clash (ap (any ends_in_method) g.0 ∙ rw (callable-method T w g.1)) (no-method-beyond d le nm)

  more-levels : (k j d : ℕ) → k ≤ j → size T ≤ d + k → NoMethod d → listed (standing_from rule T q j (set_level T t d)) ≡ listed (standing_from rule T q k (set_level T t d))
  unfolding standing_from
  more-levels zero j d le en nm = never-given j d (omega arith) nm
  more-levels (suc k) zero d le en nm = absurd (omega arith)
  more-levels (suc k) (suc j) d le en nm = go (settled rule T (ends_at T q t d)) refl (λ n. more-levels k j (suc d) (omega arith) (omega arith) n)
    where
      go : (s : Standing) → settled rule T (ends_at T q t d) ≡ s
          → (NoMethod (suc d) → listed (standing_from rule T q j (set_level T t (suc d))) ≡ listed (standing_from rule T q k (set_level T t (suc d))))
          → listed (standing_from rule T q (suc j) (set_level T t d)) ≡ listed (standing_from rule T q (suc k) (set_level T t d))
      go absent e ih = rw (standing_from, e) (ih (no-method-on d nm (settled-absent rule T (ends_at T q t d) (ap is_absent e))))
      go hidden e ih = rw (standing_from, e)
      go (given w) e ih = rw (standing_from, e)

  -- MORE LEVELS THAN THERE ARE TYPES GIVE NO METHOD MORE, and take none away.
  pub enough-levels : (k : ℕ) → size T ≤ k → listed (standing_from rule T q k (first_level T t)) ≡ listed (standing rule T q t)
  unfolding standing
  enough-levels k le = more-levels (size T) k 0 le (omega arith) (λ u h. clash h refl)
