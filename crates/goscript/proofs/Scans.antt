-- What the lookup does with one embedded type: it gathers the types that it embeds, or finds its one member of the name.
use mathlib.Core.Path.{◌≡◌, refl, sym, ap, ◌∙◌, subst}
use mathlib.Core.Bool.{Bool, true, false, cond, not, ◌&&◌, ◌||◌}
use mathlib.Core.List.{List, [], ◌∷◌, ◌++◌, append-nil, append_assoc, foldl}
use mathlib.Core.Option.{none, some}
use Prim.Native.Nat.{ℕ}
use borrow.Author.Tests.{eqb-true}
use Rattle.objects.specs.Lists.{any, keep, flat}
use Rattle.objects.proofs.ListLaws.{cases, clash, or_l, or_r, any_append, keep_append, none_kept, keep-none}
use Rattle.text.specs.Bytes.{is_blank}
use Rattle.objects.specs.declared.TypeKey.{TypeKey}
use Rattle.objects.specs.Table.{Table, same_type, Kind, kind_number, is_struct, is_iface, is_named, members_of, fields_of, declared_of, all_methods_of, all_methods, kind_at, under}
use Rattle.rules.specs.Members.{Identity}
use Rattle.rules.specs.Ways.{Place, places_from, Way, field_places, owned}
use Rattle.ways.specs.Levels.{EmbeddedType, at, first_of, hit}
use Rattle.ways.specs.Graph as over
use Rattle.ways.specs.OfTable.{graph}
use Rattle.ways.proofs.Same.{One}
use Rattle.goscript.specs.Lookup.{Scan, Turn, returned, going, is_none, way_of, on_found, matches, first_match, pushes, embed, pushed, visit_field, visit_under, visit}

-- no struct is an interface
pub not-both : (k : Kind) → is_struct k ≡ true → is_iface k ≡ false
not-both k e = rw (eqb-true (kind_number k) 8 e)

module _ (T : Table) (q : Identity) where
  -- ---- the first match of a list

  first-none : (ps : List Place) → any (matches T q) ps ≡ false → first_match T q ps ≡ none
  first-none [] h = refl
  first-none (p ∷ ps) h = cases (matches T q p) (λ e. clash (rw e) h) (λ e. rw e (first-none ps (rw e at h)))

  first_some : (ps more : List Place) → any (matches T q) ps ≡ true → first_match T q ps ≡ some (first_of (keep (matches T q) (ps ++ more)))
  first_some [] more h = clash h refl
  first_some (p ∷ ps) more h = cases (matches T q p) (λ e. rw e) (λ e. rw e (first_some ps more (rw e at h)))

  -- ---- the fields of a struct

  module _ (et : EmbeddedType) where
    -- what a list of fields adds to `next`
    abbrev pub gathers : Scan → List Place → List EmbeddedType
    gathers st fs = flat (λ f. cond (pushes T q st f) (embed T q et f ∷ []) []) fs

    -- the scan with other types to search next
    abbrev pub onto : Scan → List EmbeddedType → Scan
    onto st n = record { seen = st.seen; target = st.target; next = n }

    stays : (indices : List ℕ) (fs : List Place) → foldl (visit_field T q et) (returned indices) fs ≡ returned indices
    stays indices [] = refl
    stays indices (f ∷ fs) = stays indices fs

    fields-miss : (fs : List Place) (st : Scan) → any (matches T q) fs ≡ false → foldl (visit_field T q et) (going st) fs ≡ going (onto st (st.next ++ gathers st fs))
    fields-miss [] st h = rw (append-nil st.next)
    fields-miss (f ∷ fs) st h =
        cases (matches T q f) (λ e. clash (rw e) h)
        (λ e. rw e (fields-miss fs (pushed T q et st f) (rw e at h) ∙ rw (append_assoc st.next (cond (pushes T q st f) (embed T q et f ∷ []) []) (gathers st fs))))

    nothing : (s : List TypeKey) (w : Way) (n : List EmbeddedType) (fs : List Place) → gathers (record { seen = s; target = some w; next = n }) fs ≡ []
    nothing s w n [] = refl
    nothing s w n (f ∷ fs) = nothing s w n fs

    found-stays : (p : Place) (fs : List Place) (st : Scan) → any (matches T q) fs ≡ false → foldl (visit_field T q et) (on_found et p st) fs ≡ on_found et p st
    found-stays p fs st h =
        cases (not (is_none st.target) || et.multiples)
        (λ e. rw e (stays _ fs))
        (λ e. rw e (fields-miss fs (record { seen = st.seen; target = some (way_of et p); next = st.next }) h
        ∙ rw (nothing st.seen (way_of et p) st.next fs, append-nil st.next)))

    one-rest : (p : Place) (l : List Place) → One (p ∷ l) → l ≡ []
    one-rest p [] o = refl
    one-rest p (r ∷ l) o = absurd o

    -- a scan that finds p, whatever it has gathered
    abbrev pub Finds : Scan → Place → Turn → Type 0
    Finds st p turn = (n : List EmbeddedType) × (turn ≡ on_found et p (onto st n))

    fields-hit : (fs : List Place) (st : Scan) → any (matches T q) fs ≡ true → One (keep (matches T q) fs) → Finds st (first_of (keep (matches T q) fs)) (foldl (visit_field T q et) (going st) fs)
    fields-hit [] st h o = clash h refl
    fields-hit (f ∷ fs) st h o =
        cases (matches T q f)
        (λ e. rw e (st.next, found-stays f fs st (none_kept (matches T q) fs (one-rest f (keep (matches T q) fs) (rw e at o)))))
        (λ e. rw e (fields-hit fs (pushed T q et st f) (rw e at h) (rw e at o)))

  -- ---- the type itself, or what lies under a named one

  module _ (et : EmbeddedType) (real : is_blank q.name ≡ false) where
    under-miss : (k : Kind) (st : Scan) → any (matches T q) (places_from 0 (fields_of k)) ≡ false → any (matches T q) (places_from 0 (all_methods_of k)) ≡ false
        → visit_under T q et k st ≡ going (onto et st (st.next ++ gathers et st (places_from 0 (fields_of k))))
    under-miss k st f m =
        cases (is_struct k)
        (λ e. rw e (fields-miss et (places_from 0 (members_of k)) st (rw e at f)))
        (λ e. rw (e, append-nil st.next) (cases (is_iface k) (λ i. rw (i, real, first-none (places_from 0 (members_of k)) (rw i at m))) (λ i. rw i)))

    under-hit : (k : Kind) (st : Scan) → any (matches T q) (places_from 0 (fields_of k) ++ places_from 0 (all_methods_of k)) ≡ true
        → One (keep (matches T q) (places_from 0 (fields_of k) ++ places_from 0 (all_methods_of k)))
        → Finds et st (first_of (keep (matches T q) (places_from 0 (fields_of k) ++ places_from 0 (all_methods_of k)))) (visit_under T q et k st)
    under-hit k st h o =
        cases (is_struct k)
        (λ e.
        let i = not-both k e in
        rw (e, i, append-nil (places_from 0 (members_of k))) (fields-hit et (places_from 0 (members_of k)) st (rw (e, i, append-nil (places_from 0 (members_of k))) at h) (rw (e, i, append-nil (places_from 0 (members_of k))) at o)))
        (λ e. cases (is_iface k)
        (λ i. rw (e, i, real) (st.next, rw (first_some (places_from 0 (members_of k)) [] (rw (e, i) at h), append-nil (places_from 0 (members_of k)))))
        (λ i. clash (rw (e, i) at h) refl))

-- ---- an embedded type of the level

-- a named type that was seen
abbrev pub skipped : Table → List TypeKey → TypeKey → Bool
skipped T seen u = is_named (kind_at T u) && any (λ v. same_type v u) seen

-- what was seen, once the type has been visited
abbrev pub saw_named : Table → EmbeddedType → List TypeKey → List TypeKey
saw_named T et seen = cond (is_named (kind_at T (at et))) (at et ∷ seen) seen

module _ (T : Table) (q : Identity) (real : is_blank q.name ≡ false) where
  pub visit-known : (st : Scan) (et : EmbeddedType) → skipped T st.seen (at et) ≡ true → visit T q (going st) et ≡ going st
  visit-known st et h = cases (is_named (kind_at T (at et))) (λ e. rw (e, (rw e at h))) (λ e. clash (rw e at h) refl)

  abbrev pub visited : Scan → EmbeddedType → List EmbeddedType → Scan
  visited st et n = record { seen = saw_named T et st.seen; target = st.target; next = n }

  module _ (et : EmbeddedType) where
    -- the lists that the type's own members stand in
    abbrev declared : List Place
    declared = places_from 0 (declared_of (kind_at T (at et)))

    abbrev inside : List Place
    inside = places_from 0 (fields_of (kind_at T (under T (at et)))) ++ places_from 0 (all_methods_of (kind_at T (under T (at et))))

    owned-are : owned T (at et) ≡ declared ++ inside
    unfolding owned all_methods
    owned-are = append_assoc declared (places_from 0 (fields_of (kind_at T (under T (at et))))) (places_from 0 (all_methods_of (kind_at T (under T (at et)))))

    visit-under : (st : Scan) → skipped T st.seen (at et) ≡ false → any (matches T q) declared ≡ false
        → visit T q (going st) et ≡ visit_under T q et (kind_at T (under T (at et))) (visited st et st.next)
    visit-under st h m =
        cases (is_named (kind_at T (at et)))
        (λ e. rw (e, (rw e at h), real, first-none T q (places_from 0 (members_of (kind_at T (at et)))) (rw e at m)))
        (λ e. rw e)

    pub visit-miss : (st : Scan) → skipped T st.seen (at et) ≡ false → hit (graph T) q et ≡ false
        → visit T q (going st) et ≡ going (visited st et (st.next ++ gathers T q et st (field_places T (at et))))
    visit-miss st h m =
        let none-all : any (matches T q) (declared ++ inside) ≡ false = ap (any (matches T q)) (sym owned-are) ∙ m in
        let parts = sym (any_append (matches T q) declared inside) ∙ none-all in
        let none_in = sym (any_append (matches T q) (field_places T (at et)) (places_from 0 (all_methods_of (kind_at T (under T (at et)))))) ∙ or_r (any (matches T q) declared) (any (matches T q) inside) parts in
        visit-under st h (or_l (any (matches T q) declared) (any (matches T q) inside) parts)
        ∙ under-miss T q et real (kind_at T (under T (at et))) (visited st et st.next)
        (or_l (any (matches T q) (field_places T (at et))) (any (matches T q) (places_from 0 (all_methods_of (kind_at T (under T (at et)))))) none_in)
        (or_r (any (matches T q) (field_places T (at et))) (any (matches T q) (places_from 0 (all_methods_of (kind_at T (under T (at et)))))) none_in)

    hit-declared : (st : Scan) → skipped T st.seen (at et) ≡ false → any (matches T q) declared ≡ true
        → Finds T q et (visited st et st.next) (first_of (keep (matches T q) (declared ++ inside))) (visit T q (going st) et)
    hit-declared st h m =
        cases (is_named (kind_at T (at et)))
        (λ e. rw (e, (rw e at h), real) (st.next, rw (first_some T q (places_from 0 (members_of (kind_at T (at et)))) inside (rw e at m))))
        (λ e. clash (rw e at m) refl)

    hit-inside : (st : Scan) → skipped T st.seen (at et) ≡ false → any (matches T q) declared ≡ false → any (matches T q) inside ≡ true → One (keep (matches T q) inside)
        → Finds T q et (visited st et st.next) (first_of (keep (matches T q) inside)) (visit T q (going st) et)
    hit-inside st h m i o =
        let r = under-hit T q et real (kind_at T (under T (at et))) (visited st et st.next) i o in
        (r.0, visit-under st h m ∙ r.1)

    pub visit-hit : (st : Scan) → skipped T st.seen (at et) ≡ false → hit (graph T) q et ≡ true → One (over.matching (graph T) q (at et))
        → Finds T q et (visited st et st.next) (first_of (over.matching (graph T) q (at et))) (visit T q (going st) et)
    visit-hit st h m o =
        let some-all : any (matches T q) (declared ++ inside) ≡ true = ap (any (matches T q)) (sym owned-are) ∙ m in
        rw owned-are
        (cases (any (matches T q) declared)
        (λ e. hit-declared st h e)
        (λ e.
        let kept : keep (matches T q) (declared ++ inside) ≡ keep (matches T q) inside = keep_append (matches T q) declared inside ∙ ap (λ l. l ++ keep (matches T q) inside) (keep-none (matches T q) declared e) in
        rw kept (hit-inside st h e (ap (λ b. b || any (matches T q) inside) (sym e) ∙ sym (any_append (matches T q) declared inside) ∙ some-all) (subst One (ap (keep (matches T q)) owned-are ∙ kept) o))))
