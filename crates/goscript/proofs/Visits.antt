-- One level of `MethodSet::new`: a named type is put into `seen` while the level is gone through, yet the level is visited as if all of it had been
-- checked beforehand.
use mathlib.Core.Path.{◌≡◌, refl, ◌∙◌}
use mathlib.Core.Bool.{Bool, true, false}
use mathlib.Core.List.{List, [], ◌∷◌, ◌++◌, map, append-nil, append_assoc, foldl}
use Rattle.objects.specs.Lists.{keep, flat}
use Rattle.objects.proofs.ListLaws.{cases, clash, map-map}
use Rattle.objects.specs.Table.{Table, is_embedded, Kind, is_struct, is_iface, is_named, members_of, fields_of, declared_of, all_methods_of, kind_at, under}
use Rattle.rules.specs.Ways.{Place, places_from, field_places, embedded}
use Rattle.ways.specs.Graph as over
use Rattle.ways.specs.Levels.{EmbeddedType, at, next}
use Rattle.ways.specs.OfTable.{graph, step_of}
use Rattle.ways.proofs.Merge.{Lawful}
use Rattle.ways.proofs.Extra.{Apart}
use Rattle.goscript.specs.Maps.{Map}
use Rattle.goscript.specs.MethodSets.{MethodCollision, FieldCollision, Visit, add_method, add_to_field_set, embed_in, visit_field, visit_under, visit}
use Rattle.goscript.proofs.Scans.{skipped, saw_named, not-both}
use Rattle.goscript.proofs.ScanLevels.{kept, saw_all, kept_on}

module _ (T : Table) where
  abbrev emb : Place → Bool
  emb p = is_embedded p.member.entity

  fields-all : (et : EmbeddedType) (fs : List Place) (st : Visit) → foldl (visit_field T et) st fs
      ≡ record { seen = st.seen; mset = st.mset; fset = foldl (add_to_field_set T et) st.fset fs; next = st.next ++ map (embed_in T et) (keep emb fs) }
  fields-all et [] st = rw (append-nil st.next)
  fields-all et (f ∷ fs) st =
      fields-all et fs (visit_field T et st f)
      ∙ cases (emb f) (λ e. rw (e, append_assoc st.next (embed_in T et f ∷ []) (map (embed_in T et) (keep emb fs)))) (λ e. rw (e, append-nil st.next))

  under-is : (et : EmbeddedType) (k : Kind) (st : Visit) → visit_under T et k st
      ≡ record {
        seen = st.seen;
        mset = foldl (add_method T et true) st.mset (places_from 0 (all_methods_of k));
        fset = foldl (add_to_field_set T et) st.fset (places_from 0 (fields_of k));
        next = st.next ++ map (embed_in T et) (keep emb (places_from 0 (fields_of k)));
      }
  under-is et k st =
      cases (is_struct k)
      (λ e. rw (e, not-both k e) (fields-all et (places_from 0 (members_of k)) st))
      (λ e. cases (is_iface k) (λ i. rw (e, i, append-nil st.next)) (λ i. rw (e, i, append-nil st.next)))

  -- what a type adds to the maps of its level
  abbrev pub mset_on : Map MethodCollision → EmbeddedType → Map MethodCollision
  mset_on set et =
      foldl (add_method T et true) (foldl (add_method T et et.walk.flag) set (places_from 0 (declared_of (kind_at T (at et)))))
      (places_from 0 (all_methods_of (kind_at T (under T (at et)))))

  abbrev pub fset_on : Map FieldCollision → EmbeddedType → Map FieldCollision
  fset_on set et = foldl (add_to_field_set T et) set (field_places T (at et))

  -- the level after the types K
  abbrev pub after_all : Visit → List EmbeddedType → Visit
  after_all st K = record { seen = saw_all T st.seen K; mset = foldl mset_on st.mset K; fset = foldl fset_on st.fset K; next = st.next ++ flat (next (graph T)) K }

  abbrev visited : Visit → EmbeddedType → Visit
  visited st et = record { seen = saw_named T et st.seen; mset = mset_on st.mset et; fset = fset_on st.fset et; next = st.next ++ next (graph T) et }

  visit-known : (st : Visit) (et : EmbeddedType) → skipped T st.seen (at et) ≡ true → visit T st et ≡ st
  visit-known st et h = cases (is_named (kind_at T (at et))) (λ e. rw (e, (rw e at h))) (λ e. clash (rw e at h) refl)

  visit-new : (st : Visit) (et : EmbeddedType) → skipped T st.seen (at et) ≡ false → visit T st et ≡ visited st et
  visit-new st et h =
      enter
      ∙ under-is et (kind_at T (under T (at et))) (record { seen = saw_named T et st.seen; mset = foldl (add_method T et et.walk.flag) st.mset (places_from 0 (declared_of (kind_at T (at et)))); fset = st.fset; next = st.next })
      ∙ rw (map-map {C = EmbeddedType} (λ x. record { walk = over.along (graph T) et.walk x; multiples = et.multiples }) (step_of T) (embedded T (at et)))
    where
      enter : visit T st et ≡ visit_under T et (kind_at T (under T (at et))) (record { seen = saw_named T et st.seen; mset = foldl (add_method T et et.walk.flag) st.mset (places_from 0 (declared_of (kind_at T (at et)))); fset = st.fset; next = st.next })
      enter = cases (is_named (kind_at T (at et))) (λ e. rw (e, (rw e at h))) (λ e. rw e)

  module _ (law : Lawful (graph T)) where
    -- A LEVEL WITHOUT TWO IDENTICAL TYPES visits what was not seen before it.
    pub visits : (L : List EmbeddedType) (st : Visit) → Apart (graph T) L → foldl (visit T) st L ≡ after_all st (kept T st.seen L)
    visits [] st apart = rw (append-nil st.next)
    visits (r ∷ L) st apart =
        cases (skipped T st.seen (at r))
        (λ e. rw (visit-known st r e, e) (visits L st apart.1))
        (λ e. rw (visit-new st r e, e)
        (visits L (visited st r) apart.1 ∙ rw (kept_on T law r st.seen L apart.0, append_assoc st.next (next (graph T) r) (flat (next (graph T)) (kept T st.seen L)))))
