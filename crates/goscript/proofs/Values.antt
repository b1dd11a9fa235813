-- What a level puts into mset_base under a key is what the rules' `settled` says of the ways of that key: none, one alone, or two or more.
use mathlib.Core.Path.{◌≡◌, refl}
use mathlib.Core.Bool.{Bool, true, false, cond, not, ◌&&◌, ◌||◌}
use mathlib.Core.List.{List, [], ◌∷◌, map, foldl}
use mathlib.Core.Option.{Option, none, some}
use Rattle.objects.specs.Lists.{any, keep}
use Rattle.objects.proofs.ListLaws.{cases, clash, or_l}
use Rattle.objects.specs.Table.{Table, is_method, has_ptr}
use Rattle.rules.specs.Members.{Identity}
use Rattle.rules.specs.Ways.{Walk, Way}
use Rattle.rules.specs.MethodSet.{method_flag}
use Rattle.ways.specs.MethodLevels.{Standing, absent, hidden, given, as_goscript, alone, settled}
use Rattle.ways.specs.Levels.{EmbeddedType, mark, raw, twin, merge, found}
use Rattle.ways.specs.OfTable.{graph}
use Rattle.goscript.specs.Maps.{is_some}
use Rattle.goscript.specs.MethodSets.{MethodCollision, method, collision, FieldCollision, var, collided, method_in, field_in}
use Rattle.goscript.proofs.MapLaws.{or_else}
use Rattle.goscript.proofs.Collisions.{selection_of, Hit, hit_way, met_method, met_field, add_m, add_f, hit_of}

-- a standing as an entry of mset_base
abbrev pub entry_of : Table → Standing → Option MethodCollision
entry_of T absent = none
entry_of T hidden = some collision
entry_of T (given w) = some (method (selection_of T w))

-- what the two loops at the end of a level put under a key
abbrev pub put : Option MethodCollision → Option FieldCollision → Option MethodCollision
put m f = or_else (method_in m (is_some f)) (field_in f)

abbrev several : Option FieldCollision → Bool
several none = false
several (some (var f)) = false
several (some collided) = true

-- hidden for good
abbrev bad : Option MethodCollision → Option FieldCollision → Bool
bad none f = several f
bad (some collision) f = true
bad (some (method s)) f = is_some f

bad-put : (m : Option MethodCollision) (f : Option FieldCollision) → bad m f ≡ true → put m f ≡ some collision
bad-put none none h = clash h refl
bad-put none (some (var f)) h = clash h refl
bad-put none (some collided) h = refl
bad-put (some collision) none h = refl
bad-put (some collision) (some f) h = refl
bad-put (some (method s)) none h = clash h refl
bad-put (some (method s)) (some f) h = refl

bad-several : (m : Option MethodCollision) → bad m (some collided) ≡ true
bad-several none = refl
bad-several (some collision) = refl
bad-several (some (method s)) = refl

module _ (T : Table) where
  second-method : (h : Hit) (m : MethodCollision) → met_method T h (some m) ≡ collision
  second-method h m = cases h.et.multiples (λ e. rw e) (λ e. rw e)

  second-field : (h : Hit) (f : FieldCollision) → met_field T h (some f) ≡ collided
  second-field h f = cases h.et.multiples (λ e. rw e) (λ e. rw e)

  -- nothing makes it good again
  bad-on : (h : Hit) (m : Option MethodCollision) (f : Option FieldCollision) → bad m f ≡ true → bad (add_m T m h) (add_f T f h) ≡ true
  bad-on h m f b = cases (is_method h.place.member.entity) (λ e. rw e (one-method m f b)) (λ e. rw e (one-field m f b))
    where
      one-method : (m : Option MethodCollision) (f : Option FieldCollision) → bad m f ≡ true → bad (some (met_method T h m)) f ≡ true
      one-method none none b = clash b refl
      one-method none (some (var f)) b = clash b refl
      one-method none (some collided) b = bad-several (some (met_method T h none))
      one-method (some c) f b = rw (second-method h c)

      one-field : (m : Option MethodCollision) (f : Option FieldCollision) → bad m f ≡ true → bad m (some (met_field T h f)) ≡ true
      one-field none none b = clash b refl
      one-field none (some (var f)) b = clash b refl
      one-field none (some collided) b = rw (second-field h collided)
      one-field (some collision) f b = refl
      one-field (some (method s)) f b = refl

  bad-all : (hs : List Hit) (m : Option MethodCollision) (f : Option FieldCollision) → bad m f ≡ true → bad (foldl (add_m T) m hs) (foldl (add_f T) f hs) ≡ true
  bad-all [] m f b = b
  bad-all (h ∷ hs) m f b = bad-all hs (add_m T m h) (add_f T f h) (bad-on h m f b)

  -- what a level's hits put into base
  abbrev pub value : List Hit → Option MethodCollision
  value hs = put (foldl (add_m T) none hs) (foldl (add_f T) none hs)

  bad-value : (hs : List Hit) (m : Option MethodCollision) (f : Option FieldCollision) → bad m f ≡ true → put (foldl (add_m T) m hs) (foldl (add_f T) f hs) ≡ some collision
  bad-value hs m f b = bad-put (foldl (add_m T) m hs) (foldl (add_f T) f hs) (bad-all hs m f b)

  bad-many : (h : Hit) → h.et.multiples ≡ true → bad (add_m T none h) (add_f T none h) ≡ true
  bad-many h t = cases (is_method h.place.member.entity) (λ e. rw (e, t)) (λ e. rw (e, t))

  bad-two : (h i : Hit) → bad (add_m T (add_m T none h) i) (add_f T (add_f T none h) i) ≡ true
  bad-two h i =
      cases (is_method h.place.member.entity)
      (λ e. cases (is_method i.place.member.entity) (λ g. rw (e, g, second-method i (met_method T h none))) (λ g. rw (e, g) (after (met_method T h none) (met_field T i none))))
      (λ e. cases (is_method i.place.member.entity) (λ g. rw (e, g) (after (met_method T i none) (met_field T h none))) (λ g. rw (e, g, second-field i (met_field T h none))))
    where
      after : (m : MethodCollision) (f : FieldCollision) → bad (some m) (some f) ≡ true
      after collision f = refl
      after (method s) f = refl

  -- one alone
  alone-entry : (flag ptr : Bool) (w : Way) → some (cond (flag || not ptr) (method (selection_of T w)) collision) ≡ entry_of T (cond (ptr && not flag) hidden (given w))
  alone-entry true true w = refl
  alone-entry true false w = refl
  alone-entry false true w = refl
  alone-entry false false w = refl

  value-one : (h : Hit) → h.et.multiples ≡ false → value (h ∷ []) ≡ entry_of T (alone as_goscript T (hit_way h))
  value-one h t =
      cases (is_method h.place.member.entity)
      (λ e. rw (e, t) (alone-entry (method_flag T (hit_way h)) (has_ptr h.place.member.entity) (hit_way h)))
      (λ e. rw (e, t))

  module _ (q : Identity) where
    value-many : (r : EmbeddedType) (X : List EmbeddedType) → r.multiples ≡ true → value (map (hit_of T q) (r ∷ X)) ≡ some collision
    value-many r X e = bad-value (map (hit_of T q) X) (add_m T none (hit_of T q r)) (add_f T none (hit_of T q r)) (bad-many (hit_of T q r) e)

    value-two : (r s : EmbeddedType) (X : List EmbeddedType) → value (map (hit_of T q) (r ∷ s ∷ X)) ≡ some collision
    value-two r s X =
        bad-value (map (hit_of T q) X) (add_m T (add_m T none (hit_of T q r)) (hit_of T q s)) (add_f T (add_f T none (hit_of T q r)) (hit_of T q s)) (bad-two (hit_of T q r) (hit_of T q s))

    -- A MERGED LEVEL PUTS INTO BASE what its unmerged walks say.
    pub value-merge : (W : List Walk) → value (map (hit_of T q) (merge (graph T) (map raw W))) ≡ entry_of T (settled as_goscript T (map (λ w. found (graph T) q (raw w)) W))
    unfolding settled
    value-merge [] = refl
    value-merge (w ∷ []) = value-one (hit_of T q (mark (raw w) false)) refl
    value-merge (w ∷ v ∷ vs) =
        cases (any (twin (graph T) (raw w)) (map raw (v ∷ vs)))
        (λ e. value-many (mark (raw w) (any (twin (graph T) (raw w)) (map raw (v ∷ vs)))) (keep (λ s. not (twin (graph T) (raw w) s)) (merge (graph T) (map raw (v ∷ vs)))) e)
        (λ e. rw (or_l ((graph T).same w.at v.at) (any (twin (graph T) (raw w)) (map raw vs)) e)
        (value-two (mark (raw w) (any (twin (graph T) (raw w)) (map raw vs))) (mark (raw v) (any (twin (graph T) (raw v)) (map raw vs)))
        (keep (λ s. not (twin (graph T) (raw w) s)) (keep (λ s. not (twin (graph T) (raw v) s)) (merge (graph T) (map raw vs))))))
