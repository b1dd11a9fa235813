-- What the rows' types own, in the order of rows: it is the ways that the walks make, and, methods and fields apart, what is met.
use mathlib.Core.Path.{◌≡◌, refl, sym, ap, ap₂, ◌∙◌, subst}
use mathlib.Core.Bool.{Bool, true, false, cond, not}
use mathlib.Core.List.{List, [], ◌∷◌, ◌++◌, map, append_assoc, append-nil}
use Prim.Native.Nat.{ℕ, zero, suc, ◌+◌, ◌≤◌, ◌<◌}
use native.Mathlib.Omega.{arith}
use lib.Dec.{eqb}
use Rattle.objects.specs.Lists.{Bytes, keep, flat, In}
use Rattle.objects.specs.declared.TypeKey.{TypeKey}
use Rattle.objects.specs.Table.{Table, obj_key, is_method, declared_of, fields_of, all_methods, kind_at}
use Rattle.objects.specs.Rows.{Words, type_count, member_at, members_from, table_of}
use Rattle.objects.specs.Types.{named_read, number_read, under_read, iface_read, first_read, total_read}
use Rattle.objects.proofs.ListLaws.{either, any_none, keep_append, keep-none, keep-yes, keep-In-ext, keep-map, map-append, map-map, map-flat, flat_append, flat-In-ext, map-In, map-In-to, In-append, In-keep}
use Rattle.objects.proofs.KindLaws.{if-In}
use Rattle.objects.proofs.RowLaws.{members-length, members-more, under-read, declared-read, fields_read, all-methods-read}
use Rattle.rules.specs.Members.{Identity, identity_of, same_id}
use Rattle.rules.specs.Library.{Library}
use Rattle.rules.specs.Ways.{Place, places_from, Walk, Way, member_of, owned, field_places}
use Rattle.rules.proofs.Sounds.{library-sound}
use Rattle.ways.specs.Graph.{ends}
use Rattle.ways.specs.OfTable.{graph}
use Rattle.ways.proofs.ListLaws.{keep-each}
use Rattle.ways.proofs.MemberSorts.{declared-method, iface-method, field-no-method}
use Rattle.selection.proofs.OwnLaws.{under-in}
use Rattle.multiples.specs.Records.{Record}
use Rattle.walks.specs.Rows.{Row, walk_at, walks_of, range}
use Rattle.walks.proofs.RowsKept.{range_last}
use Rattle.walk_rows.specs.Records.{row_of, rows_of, level_of}
use Rattle.walk_rows.specs.State.{Walked}
use Rattle.walk_rows.proofs.StateLaws.{rows-length, rows_at}
use Rattle.walk_rows.proofs.LowerLaws.{places-append}
use Rattle.levels.specs.declared.Found.{Found}
use Rattle.levels.specs.Hits.{way_to}
use Rattle.first_hits.specs.Names.{identity_at}
use Rattle.first_hits.specs.Hits.{stretch_met, struct_kind, iface_kind, declared_met, parts_met, methods_met, fields_met}
use Rattle.first_hits.proofs.MetLaws.{row_typed}
use Rattle.method_set.proofs.Firsts.{Leads, leads-all, leads-on}

module _ (rows : Words) (walk : List Record) where
  -- what row i's type owns: the methods of a named type, the fields of the struct under it, the methods of the interface under it
  abbrev row_met : ℕ → List Found
  row_met i = (declared_met rows walk i ++ parts_met rows walk struct_kind i) ++ parts_met rows walk iface_kind i

  -- what the types of the first n rows own
  unfoldable pub all_met : ℕ → List Found
  all_met zero = []
  all_met (suc n) = all_met n ++ row_met n

-- all pass, or none
kept-all : {A : Type 0} (p : A → Bool) (l : List A) → ((x : A) → In x l → p x ≡ true) → keep p l ≡ l
kept-all p l h = keep-In-ext p (λ x. true) l h ∙ keep-yes l

kept-none : {A : Type 0} (p : A → Bool) (l : List A) → ((x : A) → In x l → p x ≡ false) → keep p l ≡ []
kept-none p l h = keep-none p l (any_none p l h)

-- ---- one list of members

module _ (text : Bytes) (rows : Words) where
  abbrev T : Table
  T = table_of text rows

  abbrev place_of : Found → Place
  place_of w = record { place = w.place; member = member_at text rows w.member }

  abbrev pub method_of : Found → Bool
  method_of w = is_method (member_at text rows w.member).entity

  abbrev pub field_of : Found → Bool
  field_of w = not (method_of w)

  stretch-places : (i first k : ℕ) → map place_of (stretch_met i first k) ≡ places_from 0 (members_from text rows first k)
  unfolding stretch_met members_from
  stretch-places i first zero = refl
  stretch-places i first (suc k) =
      let m = member_at text rows (obj_key (first + k)) in
      let z : 0 + k ≡ k = omega arith in
      map-append place_of (stretch_met i first k) (record { row = i; place = k; member = obj_key (first + k) } ∷ [])
      ∙ ap (λ l. l ++ (record { place = k; member = m } ∷ [])) (stretch-places i first k)
      ∙ sym (ap (places_from 0) (members-more text rows first k)
      ∙ places-append 0 (members_from text rows first k) (m ∷ [])
      ∙ ap (λ n. places_from 0 (members_from text rows first k) ++ places_from n (m ∷ [])) (ap (λ n. 0 + n) (members-length text rows first k) ∙ z))

  stretch-row : (i first k : ℕ) (w : Found) → In w (stretch_met i first k) → w.row ≡ i
  unfolding stretch_met
  stretch-row i first zero w j = absurd j
  stretch-row i first (suc k) w j =
      either (In-append (stretch_met i first k) (record { row = i; place = k; member = obj_key (first + k) } ∷ []) w j) (λ a. stretch-row i first k w a) (λ a. either a (λ e. ap (λ (x : Found). x.row) e) (λ z. absurd z))

  -- the list, where there is one
  stretch-if : (b : Bool) (i first k : ℕ) → map place_of (cond b (stretch_met i first k) []) ≡ places_from 0 (cond b (members_from text rows first k) [])
  stretch-if true i first k = stretch-places i first k
  stretch-if false i first k = refl

  -- ---- one row

  module _ (walk : List Record) (i : ℕ) where
    abbrev u : TypeKey
    u = (row_of walk i).type

    abbrev declared : List Found
    declared = declared_met rows walk i

    abbrev fields : List Found
    fields = parts_met rows walk struct_kind i

    abbrev listed : List Found
    listed = parts_met rows walk iface_kind i

    parts-row : (kind : ℕ) (w : Found) → In w (parts_met rows walk kind i) → w.row ≡ i
    unfolding parts_met
    parts-row kind w j =
        let v = under_read rows u in
        stretch-row i (first_read rows v) (total_read rows v) w (if-In (eqb (number_read rows v) kind) (stretch_met i (first_read rows v) (total_read rows v)) w j).1

    met-row : (w : Found) → In w (row_met rows walk i) → w.row ≡ i
    unfolding declared_met
    met-row w j =
        either (In-append (declared ++ fields) listed w j)
        (λ a. either (In-append declared fields w a)
        (λ b. stretch-row i (first_read rows u) (total_read rows u) w (if-In (named_read rows u) (stretch_met i (first_read rows u) (total_read rows u)) w b).1)
        (parts-row struct_kind w))
        (parts-row iface_kind w)

    module _ (lib : Library text rows) (inside : u.0 < type_count rows) where
      below : (under_read rows u).0 < type_count rows
      below = under-in text rows lib u inside refl

      declared-places : map place_of declared ≡ places_from 0 (declared_of (kind_at T u))
      unfolding declared_met
      declared-places = stretch-if (named_read rows u) i (first_read rows u) (total_read rows u) ∙ ap (places_from 0) (sym (declared-read text rows u inside))

      parts-places : (kind : ℕ) → map place_of (parts_met rows walk kind i) ≡ places_from 0 (cond (eqb (number_read rows (under_read rows u)) kind) (members_from text rows (first_read rows (under_read rows u)) (total_read rows (under_read rows u))) [])
      unfolding parts_met
      parts-places kind = let v = under_read rows u in stretch-if (eqb (number_read rows v) kind) i (first_read rows v) (total_read rows v)

      field-places : map place_of fields ≡ field_places T u
      field-places = parts-places struct_kind ∙ sym (ap (places_from 0) (ap (λ x. fields_of (kind_at T x)) (under-read text rows u inside) ∙ fields_read text rows (under_read rows u) below))

      listed-places : map place_of listed ≡ places_from 0 (all_methods T u)
      unfolding iface_read
      listed-places = parts-places iface_kind ∙ sym (ap (places_from 0) (all-methods-read text rows u inside below))

      met-places : map place_of (row_met rows walk i) ≡ owned T u
      unfolding owned
      met-places =
          map-append place_of (declared ++ fields) listed
          ∙ ap₂ (λ a b. a ++ b) (map-append place_of declared fields ∙ ap₂ (λ a b. a ++ b) declared-places field-places) listed-places

      -- ---- its methods and its fields

      declared-methods : (w : Found) → In w declared → method_of w ≡ true
      declared-methods w j = declared-method T (library-sound lib) u (place_of w) (subst (In (place_of w)) declared-places (map-In-to place_of declared w j))

      fields-none : (w : Found) → In w fields → method_of w ≡ false
      fields-none w j = field-no-method T (library-sound lib) u (place_of w) (subst (In (place_of w)) field-places (map-In-to place_of fields w j))

      listed-methods : (w : Found) → In w listed → method_of w ≡ true
      unfolding all_methods
      listed-methods w j = iface-method T (library-sound lib) u (place_of w) (subst (In (place_of w)) listed-places (map-In-to place_of listed w j))

      keep-parts : (p : Found → Bool) → keep p (row_met rows walk i) ≡ (keep p declared ++ keep p fields) ++ keep p listed
      keep-parts p = keep_append p (declared ++ fields) listed ∙ ap (λ l. l ++ keep p listed) (keep_append p declared fields)

      row-methods : keep method_of (row_met rows walk i) ≡ declared ++ listed
      row-methods =
          keep-parts method_of
          ∙ ap₂ (λ a b. a ++ b)
          (ap₂ (λ a b. a ++ b) (kept-all method_of declared declared-methods) (kept-none method_of fields fields-none) ∙ append-nil declared)
          (kept-all method_of listed listed-methods)

      row-fields : keep field_of (row_met rows walk i) ≡ fields
      row-fields =
          keep-parts field_of
          ∙ ap₂ (λ a b. a ++ b)
          (ap₂ (λ a b. a ++ b) (kept-none field_of declared (λ w j. ap not (declared-methods w j))) (kept-all field_of fields (λ w j. ap not (fields-none w j))))
          (kept-none field_of listed (λ w j. ap not (listed-methods w j)))
          ∙ append-nil fields

  -- ---- all rows

  -- each was met on one of the rows
  pub met-inside : (walk : List Record) (i : ℕ) (w : Found) → In w (all_met rows walk i) → w.row < i
  unfolding all_met
  met-inside walk zero w j = absurd j
  met-inside walk (suc i) w j =
      either (In-append (all_met rows walk i) (row_met rows walk i) w j)
      (λ a. let l = met-inside walk i w a in omega arith)
      (λ a. let e = met-row walk i w a in omega arith)

  module _ (lib : Library text rows) (walk : List Record) (n : ℕ) (state : Walked (type_count rows) walk n) where
    abbrev way_of : Found → Way
    way_of = way_to text rows walk n

    abbrev R : List Row
    R = rows_of walk n

    -- the ways from a walk to each member of the type where it stands
    abbrev ways_at : Walk → List Way
    ways_at w = map (λ p. record { walk = w; last = p }) (owned T w.at)

    row-ways : (i : ℕ) → i < n → map way_of (row_met rows walk i) ≡ ways_at (walk_at R i)
    unfolding way_to
    row-ways i l =
        let inside = row_typed state i l in
        let at : Place → Way = λ p. record { walk = walk_at R i; last = p } in
        map-In way_of (λ w. at (place_of w)) (row_met rows walk i) (λ w j. ap (λ k. record { walk = walk_at R k; last = place_of w }) (met-row walk i w j))
        ∙ sym (map-map at place_of (row_met rows walk i))
        ∙ ap (map at) (met-places walk i lib inside ∙ ap (λ (r : Row). owned T r.type) (sym (rows_at walk n i l)))

    first-ways : (i : ℕ) → i ≤ n → map way_of (all_met rows walk i) ≡ flat ways_at (map (walk_at R) (range 0 i))
    unfolding all_met
    first-ways zero l = refl
    first-ways (suc i) l =
        map-append way_of (all_met rows walk i) (row_met rows walk i)
        ∙ ap₂ (λ a b. a ++ b) (first-ways i (omega arith)) (row-ways i l ∙ sym (append-nil (ways_at (walk_at R i))))
        ∙ sym (ap (λ is. flat ways_at (map (walk_at R) is)) (range_last i)
        ∙ ap (flat ways_at) (map-append (walk_at R) (range 0 i) (i ∷ []))
        ∙ flat_append ways_at (map (walk_at R) (range 0 i)) (walk_at R i ∷ []))

    all_ways : map way_of (all_met rows walk n) ≡ flat ways_at (walks_of R)
    all_ways = first-ways n (omega arith) ∙ ap (λ k. flat ways_at (map (walk_at R) (range 0 k))) (sym (rows-length walk n))

    -- WHAT WAS MET OF A NAME IS THE WAYS THAT THE WALKS MAKE TO IT,
    pub met-ways : (q : Identity) → map way_of (keep (λ w. same_id (identity_at text rows w.member.0) q) (all_met rows walk n)) ≡ flat (ends (graph T) q) (walks_of R)
    unfolding way_to identity_at
    met-ways q =
        let hit : Way → Bool = λ v. (graph T).hit q v.last in
        sym (keep-map hit way_of (all_met rows walk n))
        ∙ ap (keep hit) all_ways
        ∙ sym (keep-each hit ways_at (walks_of R))
        ∙ flat-In-ext (λ w. keep hit (ways_at w)) (ends (graph T) q) (walks_of R) (λ w i. keep-map hit (λ p. record { walk = w; last = p }) (owned T w.at))

    -- and its names are those that the members of the walks' types have.
    pub met-names : map (λ w. identity_at text rows w.member.0) (all_met rows walk n) ≡ flat (λ w. map (λ p. identity_of T p.member) (owned T w.at)) (walks_of R)
    unfolding way_to identity_at
    met-names =
        let name : Way → Identity = λ v. identity_of T (member_of v) in
        sym (map-map name way_of (all_met rows walk n))
        ∙ ap (map name) all_ways
        ∙ map-flat name ways_at (walks_of R)
        ∙ flat-In-ext (λ w. map name (ways_at w)) (λ w. map (λ p. identity_of T p.member) (owned T w.at)) (walks_of R) (λ w i. map-map name (λ p. record { walk = w; last = p }) (owned T w.at))

    -- ---- methods and fields apart

    first-methods : (i : ℕ) → i ≤ n → keep method_of (all_met rows walk i) ≡ methods_met rows walk i
    unfolding all_met methods_met
    first-methods zero l = refl
    first-methods (suc i) l =
        keep_append method_of (all_met rows walk i) (row_met rows walk i)
        ∙ ap₂ (λ a b. a ++ b) (first-methods i (omega arith)) (row-methods walk i lib (row_typed state i l))
        ∙ sym (append_assoc (methods_met rows walk i) (declared walk i) (listed walk i))

    pub all-methods : keep method_of (all_met rows walk n) ≡ methods_met rows walk n
    all-methods = first-methods n (omega arith)

    pub method-met : (w : Found) → In w (methods_met rows walk n) → In w (all_met rows walk n)
    method-met w j = (In-keep method_of (all_met rows walk n) w (subst (In w) (sym all-methods) j)).0

    first-fields : (i : ℕ) → i ≤ n → keep field_of (all_met rows walk i) ≡ fields_met rows walk i
    unfolding all_met fields_met
    first-fields zero l = refl
    first-fields (suc i) l =
        keep_append field_of (all_met rows walk i) (row_met rows walk i)
        ∙ ap₂ (λ a b. a ++ b) (first-fields i (omega arith)) (row-fields walk i lib (row_typed state i l))

    pub all-fields : keep field_of (all_met rows walk n) ≡ fields_met rows walk n
    all-fields = first-fields n (omega arith)

    -- ---- in the order of levels

    module _ (climbs : (i j : ℕ) → i ≤ j → j < n → level_of walk i ≤ level_of walk j) (p : Found → Bool) where
      first-leads : (i : ℕ) → i ≤ n → Leads (λ w. level_of walk w.row) (keep p (all_met rows walk i))
      unfolding all_met
      first-leads zero l = tt
      first-leads (suc i) l =
          let depth : Found → ℕ = λ w. level_of walk w.row in
          let below : (x y : Found) → x.row ≤ i → In y (keep p (row_met rows walk i)) → depth x ≤ depth y =
          λ x y o j. let e = met-row walk i y (In-keep p (row_met rows walk i) y j).0 in climbs x.row y.row (omega arith) (omega arith) in
          subst (Leads depth) (sym (keep_append p (all_met rows walk i) (row_met rows walk i)))
          (leads-on depth (keep p (all_met rows walk i)) (keep p (row_met rows walk i)) (first-leads i (omega arith))
          (leads-all depth (keep p (row_met rows walk i)) (λ x y a b. below x y (let e = met-row walk i x (In-keep p (row_met rows walk i) x a).0 in omega arith) b))
          (λ x y a b. below x y (let o = met-inside walk i x (In-keep p (all_met rows walk i) x a).0 in omega arith) b))

      -- of those that pass a test, none is less deep than the first
      pub met-leads : Leads (λ w. level_of walk w.row) (keep p (all_met rows walk n))
      met-leads = first-leads n (omega arith)
