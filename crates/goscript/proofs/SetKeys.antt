-- The keys of the maps of `MethodSet::new` are identities of the table's members, and under the blank name there is never a method.
use mathlib.Core.Path.{◌≡◌, refl, sym, ap, ◌∙◌, subst}
use mathlib.Core.Bool.{true, false}
use mathlib.Core.List.{List, [], ◌∷◌, foldl}
use mathlib.Core.Logic.{inl, inr}
use mathlib.Core.Option.{Option, none, some}
use Prim.Native.Nat.{ℕ, zero, suc}
use Rattle.objects.specs.Lists.{keep, flat, In}
use Rattle.objects.proofs.ListLaws.{cases, clash, In-keep, In-map, In-flat}
use Rattle.text.specs.Bytes.{is_blank}
use Rattle.objects.specs.declared.TypeKey.{TypeKey}
use Rattle.objects.specs.Table.{Table, Member, is_method, kind_at, under, declared_of, all_methods_of}
use Rattle.rules.specs.Members.{Identity, identity_of, identity_from}
use Rattle.rules.specs.Sound.{Sound, MemberOf}
use Rattle.rules.specs.Ways.{Place, places_from, field_places, owned}
use Rattle.rules.proofs.MemberLaws.{same_id-true}
use Rattle.rules.proofs.IdLaws.{Proper, member-proper}
use Rattle.ways.specs.Levels.{EmbeddedType, at}
use Rattle.goscript.specs.Maps.{Map, get, contains, keys, insert_new}
use Rattle.goscript.specs.Lookup.{matches}
use Rattle.goscript.specs.MethodSets.{MethodCollision, FieldCollision, var, collided, Visit, add_method, add_to_field_set, method_in, field_in, selected, visit_all, add_methods, add_collisions}
use Rattle.goscript.proofs.MapLaws.{or_else}
use Rattle.ways.proofs.MemberSorts.{declared-In, iface-In, field-In, owned-member}
use Rattle.goscript.proofs.Visits.{mset_on, fset_on, after_all}
use Rattle.goscript.proofs.Collisions.{Hit, add_m, hit_at, hits_of, mset-at}
use Rattle.goscript.proofs.Values.{put}
use Rattle.goscript.proofs.SetsSame.{Turn, turn_on, all-visited, loops, set_after, K}

-- what each turn of a fold keeps, the fold keeps
fold-keeps : {A S : Type 0} (P : S → Type 0) (f : S → A → S) (l : List A) → ((s : S) (x : A) → In x l → P s → P (f s x)) → (s : S) → P s → P (foldl f s l)
fold-keeps P f [] h s p = p
fold-keeps P f (x ∷ l) h s p = fold-keeps P f l (λ t y i. h t y (inr i)) (f s x) (h s x (inl refl) p)

-- each key of a map is one that a member of a table can have
abbrev pub Keys : {A : Type 0} → Map A → Type 0
Keys m = (k : Identity) → In k (keys m) → Proper k

more-keys : (k : Identity) (ks : List Identity) → Proper k → ((x : Identity) → In x ks → Proper x) → (x : Identity) → In x (k ∷ ks) → Proper x
more-keys k ks p h x (inl e) = subst Proper (sym e) p
more-keys k ks p h x (inr i) = h x i

new-keys : {A : Type 0} (k : Identity) (o : Option A) (m : Map A) → Proper k → Keys m → Keys (insert_new k o m)
new-keys k none m p h = cases (contains m k) (λ e. rw e h) (λ e. rw e h)
new-keys k (some v) m p h = cases (contains m k) (λ e. rw e h) (λ e. rw e (more-keys k (keys m) p h))

module _ (T : Table) (sound : Sound T) where
  mset-keys : (r : EmbeddedType) (set : Map MethodCollision) → Keys set → Keys (mset_on T set r)
  mset-keys r set h =
      fold-keeps Keys (add_method T r true) (places_from 0 (all_methods_of (kind_at T (under T (at r)))))
      (λ s p i. more-keys (identity_of T p.member) (keys s) (member-proper T sound (under T (at r)) p.member (iface-In T sound (at r) p i).1)) _
      (fold-keeps Keys (add_method T r r.walk.flag) (places_from 0 (declared_of (kind_at T (at r))))
      (λ s p i. more-keys (identity_of T p.member) (keys s) (member-proper T sound (at r) p.member (declared-In T sound (at r) p i).1)) set h)

  fset-keys : (r : EmbeddedType) (set : Map FieldCollision) → Keys set → Keys (fset_on T set r)
  fset-keys r set h =
      fold-keeps Keys (add_to_field_set T r) (field_places T (at r))
      (λ s p i. more-keys (identity_of T p.member) (keys s) (member-proper T sound (under T (at r)) p.member (field-In T sound (at r) p i).1)) set h

  module _ (t : TypeKey) where
    level-keys : (d : ℕ) (seen : List TypeKey) (L : List EmbeddedType) → Turn T sound t d seen L → (set : Map MethodCollision) → Keys set
        → Keys (add_collisions T (visit_all T seen L) (add_methods T (visit_all T seen L) set))
    level-keys d seen L turn set h = subst (λ (st : Visit). Keys (add_collisions T st (add_methods T st set))) (sym (all-visited T sound t d seen L turn)) (both (after_all T (record { seen = seen; mset = []; fset = []; next = [] }) (K T sound t d seen L turn)) ms fs)
      where
        ms : Keys (foldl (mset_on T) [] (K T sound t d seen L turn))
        ms = fold-keeps Keys (mset_on T) (K T sound t d seen L turn) (λ s r i. mset-keys r s) [] (λ k i. absurd i)

        fs : Keys (foldl (fset_on T) [] (K T sound t d seen L turn))
        fs = fold-keeps Keys (fset_on T) (K T sound t d seen L turn) (λ s r i. fset-keys r s) [] (λ k i. absurd i)

        both : (st : Visit) → Keys st.mset → Keys st.fset → Keys (add_collisions T st (add_methods T st set))
        both st m f =
            fold-keeps Keys (λ b k. insert_new k (field_in (get st.fset k)) b) (keys st.fset) (λ s k i. new-keys k (field_in (get st.fset k)) s (f k i)) (add_methods T st set)
            (fold-keeps Keys (λ b k. insert_new k (method_in (get st.mset k) (contains st.fset k)) b) (keys st.mset) (λ s k i. new-keys k (method_in (get st.mset k) (contains st.fset k)) s (m k i)) set h)

    pub after-keys : (k d : ℕ) (seen : List TypeKey) (set : Map MethodCollision) (L : List EmbeddedType) → Turn T sound t d seen L → Keys set → Keys (set_after T k seen set L)
    after-keys zero d seen set L turn h = h
    after-keys (suc k) d seen set L turn h =
        after-keys k (suc d) _ (add_collisions T (visit_all T seen L) (add_methods T (visit_all T seen L) set)) _ (turn_on T sound t d seen L turn) (level-keys d seen L turn set h)

-- ---- the blank name

module _ (T : Table) (sound : Sound T) where
  module _ (q : Identity) (blank : is_blank q.name ≡ true) where
    no-blank-method : (m : Member) (v : TypeKey) → MemberOf T v m → identity_of T m ≡ q → is_method m.entity ≡ false
    unfolding identity_of identity_from
    no-blank-method m v i e = cases (is_method m.entity) (λ h. clash (ap (λ (x : Identity). is_blank x.name) e ∙ blank) (sound.method_named v m i h)) (λ h. h)

    no-methods : (X : List EmbeddedType) → foldl (add_m T) none (flat (hits_of T q) X) ≡ none
    no-methods X = fold-keeps (λ (s : Option MethodCollision). s ≡ none) (add_m T) (flat (hits_of T q) X) one none refl
      where
        one : (s : Option MethodCollision) (h : Hit) → In h (flat (hits_of T q) X) → s ≡ none → add_m T s h ≡ none
        one s h i e =
            let r = In-flat (hits_of T q) X h i in
            let m = In-map (hit_at r.0) (keep (matches T q) (owned T (at r.0))) h r.2 in
            let k = In-keep (matches T q) (owned T (at r.0)) m.0 m.1 in
            let o = owned-member T sound (at r.0) m.0 k.0 in
            left m.0 (ap (λ (x : Hit). x.place) m.2) (no-blank-method m.0.member o.0 o.1 (same_id-true (identity_of T m.0.member) q k.1))
          where
            left : (p : Place) → h.place ≡ p → is_method p.member.entity ≡ false → add_m T s h ≡ none
            left p f n = let g : is_method h.place.member.entity ≡ false = ap (λ (x : Place). is_method x.member.entity) f ∙ n in rw g e

    not_selected : (o : Option MethodCollision) (f : Option FieldCollision) → selected o ≡ [] → selected (or_else o (field_in f)) ≡ []
    not_selected none none h = refl
    not_selected none (some (var m)) h = refl
    not_selected none (some collided) h = refl
    not_selected (some c) f h = h

    module _ (t : TypeKey) where
      blank_turn : (d : ℕ) (seen : List TypeKey) (L : List EmbeddedType) → Turn T sound t d seen L → (set : Map MethodCollision) → selected (get set q) ≡ []
          → selected (get (add_collisions T (visit_all T seen L) (add_methods T (visit_all T seen L) set)) q) ≡ []
      blank_turn d seen L turn set h =
          let none-there : get (visit_all T seen L).mset q ≡ none =
          ap (λ (st : Visit). get st.mset q) (all-visited T sound t d seen L turn) ∙ mset-at T q sound (K T sound t d seen L turn) [] ∙ no-methods (K T sound t d seen L turn) in
          ap selected (loops T sound t d seen L turn q set ∙ ap (λ m. or_else (get set q) (put m (get (visit_all T seen L).fset q))) none-there)
          ∙ not_selected (get set q) (get (visit_all T seen L).fset q) h

      pub after-blank : (k d : ℕ) (seen : List TypeKey) (set : Map MethodCollision) (L : List EmbeddedType) → Turn T sound t d seen L → selected (get set q) ≡ [] → selected (get (set_after T k seen set L) q) ≡ []
      after-blank zero d seen set L turn h = h
      after-blank (suc k) d seen set L turn h =
          after-blank k (suc d) _ (add_collisions T (visit_all T seen L) (add_methods T (visit_all T seen L) set)) _ (turn_on T sound t d seen L turn) (blank_turn d seen L turn set h)
