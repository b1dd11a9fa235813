-- What the maps of a level say of one key: the members of that key which the level has, one after the other.
use mathlib.Core.Path.{◌≡◌, refl, sym, ap, ◌∙◌}
use mathlib.Core.Bool.{Bool, true, false, cond, not, ◌&&◌, ◌||◌}
use mathlib.Core.List.{List, [], ◌∷◌, ◌++◌, map, foldl, foldl-append}
use mathlib.Core.Logic.{inl, inr}
use mathlib.Core.Option.{Option, some}
use Rattle.objects.specs.Lists.{keep, flat, In}
use Rattle.objects.proofs.ListLaws.{cases, keep_append, map-append, any-yes}
use Rattle.objects.specs.Table.{Table, is_method, has_ptr, declared_of, all_methods_of, all_methods, kind_at, under}
use Rattle.rules.specs.Members.{Identity, identity_of}
use Rattle.rules.proofs.MemberLaws.{same_id-true}
use Rattle.rules.specs.Sound.{Sound}
use Rattle.rules.specs.Ways.{Place, places_from, Way, member_of, places_of, field_places, owned}
use Rattle.rules.specs.MethodSet.{method_flag}
use Rattle.ways.specs.Graph as over
use Rattle.ways.specs.Levels.{EmbeddedType, at, hit, first_of}
use Rattle.ways.specs.OfTable.{graph}
use Rattle.ways.proofs.Same.{Keyed, One}
use Rattle.goscript.specs.Maps.{Map, get, is_some}
use Rattle.goscript.specs.Lookup.{way_of, matches}
use Rattle.goscript.specs.MethodSets.{Selection, MethodCollision, method, collision, FieldCollision, var, collided, add_method, add_to_field_set}
use Rattle.ways.proofs.MemberSorts.{declared-method, declared-flag, iface-method, iface-flag, field-no-method}
use Rattle.goscript.proofs.Visits.{mset_on, fset_on}

-- a line of the set for a way
abbrev pub selection_of : Table → Way → Selection
selection_of T w = record { obj = member_of w; indices = places_of w; indirect = method_flag T w }

-- a member of the key, at an embedded type
pub record Hit : Type 0 where
  pub et : EmbeddedType
  pub place : Place

abbrev pub hit_way : Hit → Way
hit_way h = way_of h.et h.place

abbrev pub hit_at : EmbeddedType → Place → Hit
hit_at r p = record { et = r; place = p }

module _ (T : Table) where
  -- what a method, and what a field, makes of what its map has under its key
  abbrev pub met_method : Hit → Option MethodCollision → MethodCollision
  met_method h s = cond (not h.et.multiples && (not (is_some s) && (method_flag T (hit_way h) || not (has_ptr h.place.member.entity)))) (method (selection_of T (hit_way h))) collision

  abbrev pub met_field : Hit → Option FieldCollision → FieldCollision
  met_field h s = cond (not h.et.multiples && not (is_some s)) (var h.place.member) collided

  abbrev pub add_m : Option MethodCollision → Hit → Option MethodCollision
  add_m s h = cond (is_method h.place.member.entity) (some (met_method h s)) s

  abbrev pub add_f : Option FieldCollision → Hit → Option FieldCollision
  add_f s h = cond (is_method h.place.member.entity) s (some (met_field h s))

module _ (T : Table) (q : Identity) where
  abbrev pub hits_in : EmbeddedType → List Place → List Hit
  hits_in r ps = map (hit_at r) (keep (matches T q) ps)

  -- one place more
  hits-on : {S : Type 0} (f : S → Hit → S) (s : S) (r : EmbeddedType) (p : Place) (ps : List Place)
      → foldl f (cond (matches T q p) (f s (hit_at r p)) s) (hits_in r ps) ≡ foldl f s (hits_in r (p ∷ ps))
  hits-on f s r p ps = cases (matches T q p) (λ e. rw e) (λ e. rw e)

  -- ---- a list of methods, a list of fields

  put-method : (r : EmbeddedType) (indirect : Bool) (set : Map MethodCollision) (p : Place) → is_method p.member.entity ≡ true → indirect ≡ method_flag T (way_of r p)
      → get (add_method T r indirect set p) q ≡ cond (matches T q p) (add_m T (get set q) (hit_at r p)) (get set q)
  put-method r indirect set p m f = cases (matches T q p) (λ e. rw (e, m, ← f, same_id-true (identity_of T p.member) q e)) (λ e. rw e)

  put-field : (r : EmbeddedType) (set : Map FieldCollision) (p : Place) → is_method p.member.entity ≡ false
      → get (add_to_field_set T r set p) q ≡ cond (matches T q p) (add_f T (get set q) (hit_at r p)) (get set q)
  put-field r set p m = cases (matches T q p) (λ e. rw (e, m, same_id-true (identity_of T p.member) q e)) (λ e. rw e)

  methods-at : (r : EmbeddedType) (indirect : Bool) (ps : List Place) (set : Map MethodCollision)
      → ((p : Place) → In p ps → (is_method p.member.entity ≡ true) × (indirect ≡ method_flag T (way_of r p)))
      → get (foldl (add_method T r indirect) set ps) q ≡ foldl (add_m T) (get set q) (hits_in r ps)
  methods-at r indirect [] set h = refl
  methods-at r indirect (p ∷ ps) set h =
      methods-at r indirect ps (add_method T r indirect set p) (λ x i. h x (inr i))
      ∙ ap (λ s. foldl (add_m T) s (hits_in r ps)) (put-method r indirect set p (h p (inl refl)).0 (h p (inl refl)).1)
      ∙ hits-on (add_m T) (get set q) r p ps

  fields_at : (r : EmbeddedType) (ps : List Place) (set : Map FieldCollision) → ((p : Place) → In p ps → is_method p.member.entity ≡ false)
      → get (foldl (add_to_field_set T r) set ps) q ≡ foldl (add_f T) (get set q) (hits_in r ps)
  fields_at r [] set h = refl
  fields_at r (p ∷ ps) set h =
      fields_at r ps (add_to_field_set T r set p) (λ x i. h x (inr i))
      ∙ ap (λ s. foldl (add_f T) s (hits_in r ps)) (put-field r set p (h p (inl refl)))
      ∙ hits-on (add_f T) (get set q) r p ps

  -- hits that leave what is there as it is
  pass : {S : Type 0} (f : S → Hit → S) (s : S) (r : EmbeddedType) (ps : List Place) → ((p : Place) → In p ps → f s (hit_at r p) ≡ s) → foldl f s (hits_in r ps) ≡ s
  pass f s r [] h = refl
  pass f s r (p ∷ ps) h =
      sym (hits-on f s r p ps)
      ∙ ap (λ x. foldl f x (hits_in r ps)) (cases (matches T q p) (λ e. rw e (h p (inl refl))) (λ e. rw e))
      ∙ pass f s r ps (λ x i. h x (inr i))

  -- ---- a type's own members

  abbrev pub hits_of : EmbeddedType → List Hit
  hits_of r = hits_in r (owned T (at r))

  hits-parts : (r : EmbeddedType)
      → hits_of r ≡ hits_in r (places_from 0 (declared_of (kind_at T (at r)))) ++ hits_in r (field_places T (at r)) ++ hits_in r (places_from 0 (all_methods_of (kind_at T (under T (at r)))))
  unfolding owned all_methods
  hits-parts r =
      let A = places_from 0 (declared_of (kind_at T (at r))) in
      let B = field_places T (at r) in
      let C = places_from 0 (all_methods_of (kind_at T (under T (at r)))) in
      ap (map (hit_at r)) (keep_append (matches T q) (A ++ B) C ∙ ap (λ l. l ++ keep (matches T q) C) (keep_append (matches T q) A B))
      ∙ map-append (hit_at r) (keep (matches T q) A ++ keep (matches T q) B) (keep (matches T q) C)
      ∙ ap (λ l. l ++ hits_in r C) (map-append (hit_at r) (keep (matches T q) A) (keep (matches T q) B))

  module _ (sound : Sound T) where
    fold-parts : {S : Type 0} (f : S → Hit → S) (s : S) (r : EmbeddedType) → foldl f s (hits_of r)
        ≡ foldl f (foldl f (foldl f s (hits_in r (places_from 0 (declared_of (kind_at T (at r)))))) (hits_in r (field_places T (at r)))) (hits_in r (places_from 0 (all_methods_of (kind_at T (under T (at r))))))
    fold-parts f s r =
        let A = hits_in r (places_from 0 (declared_of (kind_at T (at r)))) in
        let B = hits_in r (field_places T (at r)) in
        let C = hits_in r (places_from 0 (all_methods_of (kind_at T (under T (at r))))) in
        ap (foldl f s) (hits-parts r) ∙ foldl-append f s (A ++ B) C ∙ ap (λ x. foldl f x C) (foldl-append f s A B)

    mset-one : (set : Map MethodCollision) (r : EmbeddedType) → get (mset_on T set r) q ≡ foldl (add_m T) (get set q) (hits_of r)
    mset-one set r =
        let A = places_from 0 (declared_of (kind_at T (at r))) in
        let B = field_places T (at r) in
        let C = places_from 0 (all_methods_of (kind_at T (under T (at r)))) in
        methods-at r true C (foldl (add_method T r r.walk.flag) set A) (λ p i. (iface-method T sound (at r) p i, iface-flag T sound (at r) p (way_of r p) refl i))
        ∙ ap (λ s. foldl (add_m T) s (hits_in r C)) (methods-at r r.walk.flag A set (λ p i. (declared-method T sound (at r) p i, declared-flag T sound (at r) p (way_of r p) refl i))
        ∙ sym (pass (add_m T) (foldl (add_m T) (get set q) (hits_in r A)) r B (λ p i. rw (field-no-method T sound (at r) p i))))
        ∙ sym (fold-parts (add_m T) (get set q) r)

    fset-one : (set : Map FieldCollision) (r : EmbeddedType) → get (fset_on T set r) q ≡ foldl (add_f T) (get set q) (hits_of r)
    fset-one set r =
        let A = places_from 0 (declared_of (kind_at T (at r))) in
        let B = field_places T (at r) in
        let C = places_from 0 (all_methods_of (kind_at T (under T (at r)))) in
        fields_at r B set (field-no-method T sound (at r))
        ∙ ap (λ s. foldl (add_f T) s (hits_in r B)) (sym (pass (add_f T) (get set q) r A (λ p i. rw (declared-method T sound (at r) p i))))
        ∙ sym (pass (add_f T) (foldl (add_f T) (foldl (add_f T) (get set q) (hits_in r A)) (hits_in r B)) r C (λ p i. rw (iface-method T sound (at r) p i)))
        ∙ sym (fold-parts (add_f T) (get set q) r)

    -- ---- a level

    pub mset-at : (K : List EmbeddedType) (set : Map MethodCollision) → get (foldl (mset_on T) set K) q ≡ foldl (add_m T) (get set q) (flat hits_of K)
    mset-at [] set = refl
    mset-at (r ∷ K) set = mset-at K (mset_on T set r) ∙ ap (λ s. foldl (add_m T) s (flat hits_of K)) (mset-one set r) ∙ sym (foldl-append (add_m T) (get set q) (hits_of r) (flat hits_of K))

    pub fset-at : (K : List EmbeddedType) (set : Map FieldCollision) → get (foldl (fset_on T) set K) q ≡ foldl (add_f T) (get set q) (flat hits_of K)
    fset-at [] set = refl
    fset-at (r ∷ K) set = fset-at K (fset_on T set r) ∙ ap (λ s. foldl (add_f T) s (flat hits_of K)) (fset-one set r) ∙ sym (foldl-append (add_f T) (get set q) (hits_of r) (flat hits_of K))

  -- ---- no type has two members of the key

  abbrev pub hit_of : EmbeddedType → Hit
  hit_of r = hit_at r (first_of (over.matching (graph T) q (at r)))

  pub hits-are : (K : List EmbeddedType) → Keyed (graph T) q → flat hits_of K ≡ map hit_of (keep (hit (graph T) q) K)
  hits-are [] kd = refl
  hits-are (r ∷ K) kd = go (over.matching (graph T) q (at r)) refl (kd.one (at r)) (hits-are K kd)
    where
      go : (ms : List Place) → over.matching (graph T) q (at r) ≡ ms → One ms → flat hits_of K ≡ map hit_of (keep (hit (graph T) q) K) → flat hits_of (r ∷ K) ≡ map hit_of (keep (hit (graph T) q) (r ∷ K))
      go [] e o ih = rw (e, any-yes (matches T q) (owned T (at r)), e, ih)
      go (m ∷ []) e o ih = rw (e, any-yes (matches T q) (owned T (at r)), e, ih, e)
      go (m ∷ n ∷ l) e o ih = absurd o
