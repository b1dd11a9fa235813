-- THE TWO DEPARTURES: for every table, M is goscript's method set without what a field covers, and without everything of a pointer to a named interface
-- (`set-less`).
use mathlib.Core.Path.{◌≡◌, refl, sym, ap, ◌∙◌}
use mathlib.Core.Bool.{Bool, true, false, cond, not, ◌&&◌, ◌||◌}
use mathlib.Core.List.{List, [], ◌∷◌, map}
use Rattle.objects.specs.Lists.{keep, flat, In}
use Rattle.objects.proofs.ListLaws.{cases, clash, or-false, or_l, any_none, keep-yes, keep-none, keep-In-ext, keep-map, flat-In-ext}
use Rattle.objects.proofs.KindLaws.{named-is, under-plain}
use Rattle.objects.specs.declared.TypeKey.{TypeKey}
use Rattle.objects.specs.Table.{Table, is_method, is_iface, is_named, kind_at, bare, pointer_at, iface_under, named_pointer}
use Rattle.rules.specs.Members.{Identity, identity_of}
use Rattle.rules.proofs.MemberLaws.{same_id-true}
use Rattle.rules.specs.Ways.{Way, member_of, shortest}
use Rattle.rules.specs.MethodSet.{callable, only_method, method_names, empty_set, method_set}
use Rattle.ways.specs.MethodLevels.{listed, Rule, as_goscript, to_interface, settled, standing, set_by_levels}
use Rattle.ways.proofs.ListLaws.{keep-each}
use Rattle.ways.proofs.MethodLevels.{listed-given, settled-absent, given-way}
use Rattle.ways.proofs.LevelSets.{Decide, standing-decided}
use Rattle.goscript.specs.Departures.{one_field, covered, to_named_interface, less_departed}
use Rattle.goscript.proofs.Collisions.{selection_of}

-- ---- one name

-- what is listed has the name
pub standing-named : (rule : Rule) (T : Table) (q : Identity) (t : TypeKey) (w : Way) → In w (listed (standing rule T q t)) → identity_of T (member_of w) ≡ q
standing-named rule T q t w i = let g = given-way rule T q t w (listed-given (standing rule T q t) w i) in same_id-true (identity_of T (member_of w)) q g.1.matches

module _ (T : Table) where
  -- all but one field decide goscript's rule too
  others-decide : (ws : List Way) → one_field ws ≡ false → Decide as_goscript T ws
  unfolding settled
  others-decide [] n h = refl
  others-decide (w ∷ []) n h = clash (ap not (or_l (is_method (member_of w).entity) false (settled-absent as_goscript T (w ∷ []) h))) n
  others-decide (w ∷ v ∷ ws) n h = clash h refl

  field-none : (ws : List Way) → one_field ws ≡ true → only_method T ws ≡ []
  unfolding only_method callable
  field-none [] h = refl
  field-none (w ∷ []) h = cases (is_method (member_of w).entity) (λ m. clash h (rw m)) (λ m. rw m)
  field-none (w ∷ v ∷ ws) h = refl

  module _ (t : TypeKey) where
    -- a field does not cover the way's name
    abbrev pub uncovered : Way → Bool
    uncovered w = not (covered T (identity_of T (member_of w)) t)

    -- A NAME GIVES WHAT IT GIVES IN GOSCRIPT, unless a field covers it.
    name-less : (q : Identity) → only_method T (shortest T q t) ≡ keep uncovered (listed (standing as_goscript T q t))
    name-less q = let L = listed (standing as_goscript T q t) in
        cases (covered T q t)
        (λ c. field-none (shortest T q t) c ∙ sym (keep-none uncovered L (any_none uncovered L (λ w i. ap (λ x. not (covered T x t)) (standing-named as_goscript T q t w i) ∙ ap not c))))
        (λ c. sym (keep-In-ext uncovered (λ w. true) L (λ w i. ap (λ x. not (covered T x t)) (standing-named as_goscript T q t w i) ∙ ap not c)
        ∙ keep-yes L
        ∙ standing-decided as_goscript T t q (others-decide (shortest T q t) c)))

-- ---- empty sets

-- an interface is under a type: it is one, or it names one
iface-or-named : (T : Table) (u : TypeKey) → iface_under T u ≡ is_iface (kind_at T u) || (is_named (kind_at T u) && iface_under T u)
unfolding iface_under
iface-or-named T u =
    cases (is_named (kind_at T u))
    (λ e. let k = named-is (kind_at T u) e in rw (e, ap is_iface k.2))
    (λ e. rw (e, under-plain T u e) (sym (or-false (is_iface (kind_at T u)))))

-- a set that is not empty is not empty for goscript
pub empty-still : (T : Table) (t : TypeKey) → empty_set T t ≡ false → named_pointer T t || to_interface as_goscript T t ≡ false
empty-still T t h =
    let to = bare T t in
    less (named_pointer T t) (pointer_at T t) (is_iface (kind_at T to)) (is_named (kind_at T to) && iface_under T to)
    (ap (λ u. named_pointer T t || (pointer_at T t && u)) (sym (iface-or-named T to)) ∙ h)
  where
    less : (n p i b : Bool) → n || (p && (i || b)) ≡ false → n || (p && i) ≡ false
    less true p i b h = h
    less false false i b h = refl
    less false true true b h = h
    less false true false b h = refl

-- and one that is not empty for goscript is empty for a pointer to a named interface alone
pub empty-now : (T : Table) (t : TypeKey) → named_pointer T t || to_interface as_goscript T t ≡ false → to_named_interface T t ≡ false → empty_set T t ≡ false
empty-now T t h p =
    let to = bare T t in
    ap (λ u. named_pointer T t || (pointer_at T t && u)) (iface-or-named T to)
    ∙ more (named_pointer T t) (pointer_at T t) (is_iface (kind_at T to)) (is_named (kind_at T to) && iface_under T to) h p
  where
    more : (n p i b : Bool) → n || (p && i) ≡ false → p && b ≡ false → n || (p && (i || b)) ≡ false
    more true p i b h z = h
    more false false i b h z = refl
    more false true true b h z = h
    more false true false b h z = z

-- n: empty for goscript too; p: a pointer, to an interface (i) or to a named one (b)
both-empty : {A : Type 0} (f : A → Bool) (old new : List A) → new ≡ keep f old → (n p i b : Bool)
    → cond (n || (p && (i || b))) [] new ≡ cond (p && b) [] (keep f (cond (n || (p && i)) [] old))
both-empty f old new h true false i b = refl
both-empty f old new h true true i true = refl
both-empty f old new h true true i false = refl
both-empty f old new h false false i b = h
both-empty f old new h false true true true = refl
both-empty f old new h false true false true = refl
both-empty f old new h false true true false = refl
both-empty f old new h false true false false = h

-- ---- the sets

module _ (T : Table) (t : TypeKey) where
  -- M IS GOSCRIPT'S METHOD SET BUT FOR THE TWO DEPARTURES.
  pub set-less : method_set T t ≡ cond (to_named_interface T t) [] (keep (λ w. not (covered T (identity_of T (member_of w)) t)) (set_by_levels as_goscript T t))
  unfolding method_set set_by_levels
  set-less =
      let to = bare T t in
      let old = flat (λ q. listed (standing as_goscript T q t)) (method_names T) in
      let new = flat (λ q. only_method T (shortest T q t)) (method_names T) in
      let names : new ≡ keep (uncovered T t) old =
      flat-In-ext (λ q. only_method T (shortest T q t)) (λ q. keep (uncovered T t) (listed (standing as_goscript T q t))) (method_names T) (λ q i. name-less T t q) ∙ keep-each (uncovered T t) (λ q. listed (standing as_goscript T q t)) (method_names T) in
      ap (λ u. cond (named_pointer T t || (pointer_at T t && u)) [] new) (iface-or-named T to)
      ∙ both-empty (uncovered T t) old new names (named_pointer T t) (pointer_at T t) (is_iface (kind_at T to)) (is_named (kind_at T to) && iface_under T to)

  -- the same of what `MethodSet::new` returns
  pub selections-less : less_departed T t (map (selection_of T) (set_by_levels as_goscript T t)) ≡ map (selection_of T) (method_set T t)
  selections-less =
      let S = set_by_levels as_goscript T t in
      ap (cond (to_named_interface T t) []) (keep-map (λ s. not (covered T (identity_of T s.obj) t)) (selection_of T) S)
      ∙ through (to_named_interface T t) (keep (uncovered T t) S)
      ∙ ap (map (selection_of T)) (sym set-less)
    where
      through : (b : Bool) (ws : List Way) → cond b [] (map (selection_of T) ws) ≡ map (selection_of T) (cond b [] ws)
      through true ws = refl
      through false ws = refl
