-- One turn of the lookup's while, on a level without two identical types: what it gives is told by the types of the level that have the name.
use mathlib.Core.Path.{◌≡◌, refl, sym, ap, ◌∙◌}
use mathlib.Core.Bool.{Bool, true, false, cond}
use mathlib.Core.List.{List, [], ◌∷◌, ◌++◌, map, append-nil, append_assoc, foldl}
use mathlib.Core.Option.{none, some}
use Prim.Native.Nat.{ℕ}
use Rattle.objects.specs.Lists.{any, keep, flat}
use Rattle.objects.proofs.ListLaws.{cases, clash, map-map, none-In, keep-In-ext}
use Rattle.objects.proofs.KeyLaws.{same_key}
use Rattle.text.specs.Bytes.{is_blank}
use Rattle.objects.specs.declared.TypeKey.{TypeKey}
use Rattle.objects.specs.Table.{Table, same_type, is_embedded, is_named, kind_at, bare}
use Rattle.rules.specs.Members.{Identity}
use Rattle.rules.specs.Ways.{Place, Way, places_of, field_places, embedded}
use Rattle.ways.specs.Graph as over
use Rattle.ways.specs.Levels.{EmbeddedType, at, twin, next, hit, found, first_of, verdict, unseen}
use Rattle.ways.specs.OfTable.{graph, step_of}
use Rattle.ways.proofs.Merge.{Lawful}
use Rattle.ways.proofs.Same.{Keyed}
use Rattle.ways.proofs.Extra.{Apart}
use Rattle.goscript.specs.Lookup.{LookupResult, Ambiguous, Scan, returned, going, on_found, searchable, embed, visit, potential_match, ended}
use Rattle.goscript.specs.Agrees.{told}
use Rattle.goscript.proofs.Scans.{gathers, skipped, saw_named, visit-known, visit-miss, visit-hit}

module _ (T : Table) where
  -- a type of a kind that is pushed
  abbrev pub live : EmbeddedType → Bool
  live r = searchable (kind_at T (at r))

  -- the level without the named types that were seen
  abbrev pub kept : List TypeKey → List EmbeddedType → List EmbeddedType
  kept seen L = keep (unseen (skipped T) seen) L

  -- what was seen, once all these have been visited
  abbrev pub saw_all : List TypeKey → List EmbeddedType → List TypeKey
  saw_all seen [] = seen
  saw_all seen (r ∷ K) = saw_all (saw_named T r seen) K

  -- the types that a visit pushes while there is no target
  abbrev pub live_next : EmbeddedType → List EmbeddedType
  live_next r = keep live (next (graph T) r)

  gathers-next : (q : Identity) (r : EmbeddedType) (s : List TypeKey) (n : List EmbeddedType) → gathers T q r (record { seen = s; target = none; next = n }) (field_places T (at r)) ≡ live_next r
  gathers-next q r s n = each (field_places T (at r)) ∙ ap (keep live) (sym (map-map (λ x. record { walk = over.along (graph T) r.walk x; multiples = r.multiples }) (step_of T) (embedded T (at r))))
    where
      each : (fs : List Place) → gathers T q r (record { seen = s; target = none; next = n }) fs ≡ keep live (map (embed T q r) (keep (λ p. is_embedded p.member.entity) fs))
      each [] = refl
      each (f ∷ fs) =
          cases (is_embedded f.member.entity)
          (λ e. cases (searchable (kind_at T (bare T f.member.type))) (λ g. rw (e, g, each fs)) (λ g. rw (e, g, each fs)))
          (λ e. rw (e, each fs))

module _ (T : Table) (law : Lawful (graph T)) where
  unlike : (r x : EmbeddedType) (b : Bool) (seen : List TypeKey) → twin (graph T) r x ≡ false → any (λ v. same_type v (at x)) (cond b (at r ∷ seen) seen) ≡ any (λ v. same_type v (at x)) seen
  unlike r x true seen h = rw (cases (same_type (at r) (at x)) (λ e. clash (rw (same_key (at r) (at x) e) (law.self (at x))) h) (λ e. e))
  unlike r x false seen h = refl

  -- a type that is visited does not make others of its level known
  pub kept_on : (r : EmbeddedType) (seen : List TypeKey) (L : List EmbeddedType) → any (twin (graph T) r) L ≡ false → kept T (saw_named T r seen) L ≡ kept T seen L
  kept_on r seen L h =
      keep-In-ext _ _ L (λ x i. rw (unlike r x (is_named (kind_at T (at r))) seen (none-In (twin (graph T) r) L x h i)))

module _ (T : Table) (q : Identity) (a : Bool) where
  -- what is given once w has been found, by the other types of the level that have the name
  abbrev after_one : Way → List EmbeddedType → LookupResult
  after_one w [] = potential_match a w
  after_one w (s ∷ rest) = Ambiguous (places_of (found (graph T) q s))

  -- what is told of a level by its types that have the name, r the first of them
  told-first : (r : EmbeddedType) (rs : List EmbeddedType)
      → told a (verdict (graph T) q (r ∷ rs)) ≡ cond r.multiples (Ambiguous (places_of (found (graph T) q r))) (after_one (found (graph T) q r) rs)
  told-first r [] = cases r.multiples (λ e. rw e) (λ e. rw e)
  told-first r (s ∷ rs) = cases r.multiples (λ e. rw e) (λ e. rw e)

  -- what is told of a level, or another result if none of its types has the name
  abbrev pub firstly : List EmbeddedType → LookupResult → LookupResult
  firstly [] other = other
  firstly (r ∷ rs) other = told a (verdict (graph T) q (r ∷ rs))

module _ (T : Table) (law : Lawful (graph T)) (q : Identity) (real : is_blank q.name ≡ false) (kd : Keyed (graph T) q) (a : Bool) (on : Scan → LookupResult) where
  stays : (indices : List ℕ) (L : List EmbeddedType) → foldl (visit T q) (returned indices) L ≡ returned indices
  stays indices [] = refl
  stays indices (r ∷ L) = stays indices L

  scan-some : (L : List EmbeddedType) (s : List TypeKey) (w : Way) (n : List EmbeddedType) → Apart (graph T) L
      → ended a on (foldl (visit T q) (going (record { seen = s; target = some w; next = n })) L) ≡ after_one T q a w (keep (hit (graph T) q) (kept T s L))
  scan-some [] s w n apart = refl
  scan-some (r ∷ L) s w n apart =
      cases (skipped T s (at r))
      (λ e. rw (visit-known T q real st r e, e) (scan-some L s w n apart.1))
      (λ e. cases (hit (graph T) q r)
      (λ h. rw ((visit-hit T q real r st e h (kd.one (at r))).1, e, h) (ap (ended a on) (stays (places_of (found (graph T) q r)) L)))
      (λ h. rw (visit-miss T q real r st e h, e, h) (scan-some L (saw_named T r s) w _ apart.1 ∙ ap (λ K. after_one T q a w (keep (hit (graph T) q) K)) (kept_on T law r s L apart.0))))
    where
      st : Scan
      st = record { seen = s; target = some w; next = n }

  scan-found : (r : EmbeddedType) (L : List EmbeddedType) (s : List TypeKey) (n : List EmbeddedType) → Apart (graph T) (r ∷ L)
      → ended a on (foldl (visit T q) (on_found r (first_of (over.matching (graph T) q (at r))) (record { seen = saw_named T r s; target = none; next = n })) L)
      ≡ told a (verdict (graph T) q (r ∷ keep (hit (graph T) q) (kept T s L)))
  scan-found r L s n apart =
      rw (told-first T q a r (keep (hit (graph T) q) (kept T s L)))
      (cases r.multiples
      (λ e. rw e (ap (ended a on) (stays (places_of (found (graph T) q r)) L)))
      (λ e. rw e (scan-some L (saw_named T r s) (found (graph T) q r) n apart.1 ∙ ap (λ K. after_one T q a (found (graph T) q r) (keep (hit (graph T) q) K)) (kept_on T law r s L apart.0))))

  -- A TURN GIVES what the types that have the name say, or gathers what the others embed.
  pub scan-none : (L : List EmbeddedType) (s : List TypeKey) (n : List EmbeddedType) → Apart (graph T) L
      → ended a on (foldl (visit T q) (going (record { seen = s; target = none; next = n })) L)
      ≡ firstly T q a (keep (hit (graph T) q) (kept T s L)) (on (record { seen = saw_all T s (kept T s L); target = none; next = n ++ flat (live_next T) (kept T s L) }))
  scan-none [] s n apart = rw (append-nil n)
  scan-none (r ∷ L) s n apart =
      cases (skipped T s (at r))
      (λ e. rw (visit-known T q real st r e, e) (scan-none L s n apart.1))
      (λ e. cases (hit (graph T) q r)
      (λ h. let v = visit-hit T q real r st e h (kd.one (at r)) in rw (v.1, e, h) (scan-found r L s v.0 apart))
      (λ h. rw (visit-miss T q real r st e h, e, h) (missed (scan-none L (saw_named T r s) (n ++ gathers T q r st (field_places T (at r))) apart.1))))
    where
      st : Scan
      st = record { seen = s; target = none; next = n }

      missed : ended a on (foldl (visit T q) (going (record { seen = saw_named T r s; target = none; next = n ++ gathers T q r st (field_places T (at r)) })) L)
          ≡ firstly T q a (keep (hit (graph T) q) (kept T (saw_named T r s) L)) (on (record { seen = saw_all T (saw_named T r s) (kept T (saw_named T r s) L); target = none; next = (n ++ gathers T q r st (field_places T (at r))) ++ flat (live_next T) (kept T (saw_named T r s) L) }))
          → ended a on (foldl (visit T q) (going (record { seen = saw_named T r s; target = none; next = n ++ gathers T q r st (field_places T (at r)) })) L)
          ≡ firstly T q a (keep (hit (graph T) q) (kept T s L)) (on (record { seen = saw_all T (saw_named T r s) (kept T s L); target = none; next = n ++ (live_next T r ++ flat (live_next T) (kept T s L)) }))
      missed ih =
          ih
          ∙ ap (λ K. firstly T q a (keep (hit (graph T) q) K) (on (record { seen = saw_all T (saw_named T r s) K; target = none; next = (n ++ gathers T q r st (field_places T (at r))) ++ flat (live_next T) K }))) (kept_on T law r s L apart.0)
          ∙ ap (λ N. firstly T q a (keep (hit (graph T) q) (kept T s L)) (on (record { seen = saw_all T (saw_named T r s) (kept T s L); target = none; next = N })))
          (append_assoc n (gathers T q r st (field_places T (at r))) (flat (live_next T) (kept T s L)) ∙ ap (λ l. n ++ (l ++ flat (live_next T) (kept T s L))) (gathers-next T q r s n))
