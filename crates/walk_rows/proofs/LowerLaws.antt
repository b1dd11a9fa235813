-- The level below: rows entered one after the other, for the fields of a struct and for the rows of a level.
use mathlib.Core.Path.{◌≡◌, refl, sym, ap, ◌∙◌, subst}
use mathlib.Core.Bool.{Bool, true, false, cond, ◌||◌}
use mathlib.Core.List.{List, [], ◌∷◌, ◌++◌, map, append-nil}
use mathlib.Core.Logic.{◌≢◌}
use Prim.Native.Nat.{ℕ, suc, ◌+◌, ◌-◌, ◌≤◌, ◌<◌}
use native.Mathlib.Omega.{arith}
use native.Mathlib.Numerals.{add-one}
use lib.Dec.{eqb}
use lib.ListN.{length, length-append, get_or-append}
use borrow.Author.Tests.{eq-eqb, ne_eqb}
use Rattle.objects.specs.Bounds.{max_elements}
use Rattle.objects.specs.Lists.{Bytes, keep, flat, In}
use Rattle.objects.specs.declared.ObjKey.{ObjKey}
use Rattle.objects.specs.declared.TypeKey.{TypeKey}
use Rattle.objects.specs.Table.{Table, Member, type_key, obj_key, is_embedded, is_struct, members_of, fields_of, kind_at, under}
use Rattle.objects.specs.Rows.{Words, type_count, type_word, member_at, members_from, table_of}
use Rattle.objects.specs.Types.{member_type_read, embedded_read, bare_read, pointer_read, under_read, number_read, first_read, total_read}
use Rattle.objects.specs.Laid.{end_of}
use Rattle.objects.proofs.ListLaws.{cases, either, keep_append, map-append, flat_append}
use Rattle.objects.proofs.PartLaws.{get_or-In}
use Rattle.objects.proofs.KindLaws.{if-In}
use Rattle.objects.proofs.RowLaws.{size-read, bare-read, pointer-read, under-read, fields_read, member-key, member-type-meant, embedded-meant, members-length, members-more, members-have}
use Rattle.rules.specs.Library.{Library}
use Rattle.rules.specs.Ways.{Place, places_from}
use Rattle.rules.proofs.RangeLaws.{under-in}
use Rattle.rules.proofs.Sounds.{library-sound}
use Rattle.ways.specs.OfTable.{graph, step_of}
use Rattle.ways.proofs.TableLaws.{bare-in}
use Rattle.multiples.specs.Records.{Record}
use Rattle.walks.specs.Rows.{Row, root_row, row, entered, enter_all, embeds, range}
use Rattle.walks.proofs.RowsKept.{range-append}
use Rattle.walks.proofs.Loops.{enter-grows, enter-append, embeds-old}
use Rattle.walk_rows.specs.declared.Above.{Above}
use Rattle.walk_rows.specs.Records.{record_at, row_meant, row_of, rows_of, level_of}
use Rattle.walk_rows.specs.State.{Fits, Holds, Walked, Enters, LastFrom, Below, FieldsTyped, row_below, rows_below}
use Rattle.walk_rows.proofs.RecordLaws.{row-level, level-read, row_read}
use Rattle.walk_rows.proofs.ListLaws.{enter-all}
use Rattle.walk_rows.proofs.StateLaws.{rows-length, rows_at}

-- ---- one after the other

module _ {types : ℕ} {walk : List Record} {n : ℕ} where
  pub enters_none : Walked types walk n → Enters types walk n [] walk n
  enters_none h = record { state = h; rows = refl }

  pub enters-then : (X Y : List Row) {walk1 walk2 : List Record} {n1 n2 : ℕ} → Enters types walk n X walk1 n1 → Enters types walk1 n1 Y walk2 n2 → Enters types walk n (X ++ Y) walk2 n2
  enters-then X Y a b = record { state = b.state; rows = b.rows ∙ ap (λ R. enter_all R Y) a.rows ∙ sym (enter-append X Y (rows_of walk n)) }

  pub enters-as : (X Y : List Row) {after : List Record} {end : ℕ} → X ≡ Y → Enters types walk n X after end → Enters types walk n Y after end
  enters-as X Y {after} {end} e h = subst (λ Z. Enters types walk n Z after end) e h

  enters-one : Walked types walk n → (x : Row) → x.type.0 < types → {after : List Record} {end : ℕ} → length after ≡ length walk → Holds after end (entered (rows_of walk n) x) → Enters types walk n (x ∷ []) after end
  enters-one h x t {after} {end} l k = record {
    state = record { room = rw l h.room; rowed = k.state; typed = rw k.rows (enter-all (λ r. r.type.0 < types) (x ∷ []) (rows_of walk n) h.typed (λ r i. either i (λ e. rw e t) (λ z. absurd z))) };
    rows = k.rows;
  }

  pub enters-row : Walked types walk n → (e : Record) → e.typ.0 < types → {after : List Record} {end : ℕ} → length after ≡ length walk → Holds after end (entered (rows_of walk n) (row_meant e)) → Enters types walk n (row_meant e ∷ []) after end
  unfolding row_meant
  enters-row h e t l k = enters-one h (row_meant e) t l k

  module _ (X : List Row) {after : List Record} {end : ℕ} (h : Enters types walk n X after end) where
    -- the rows so far are the first of the rows after
    enters-old : (F : List Row) × (rows_of after end ≡ rows_of walk n ++ F)
    enters-old = let g = enter-grows X (rows_of walk n) in (g.0, h.rows ∙ g.1)

    pub enters-more : n ≤ end
    enters-more =
        let g = enters-old in
        let a = rows-length walk n in
        let b = rows-length after end in
        let c = ap length g.1 ∙ length-append (rows_of walk n) g.0 in
        omega arith

    row_old : (j : ℕ) → j < n → row_of after j ≡ row_of walk j
    row_old j l =
        let g = enters-old in
        let m = enters-more in
        sym (rows_at after end j (omega arith))
        ∙ ap (λ R. row R j) g.1
        ∙ get_or-append (rows_of walk n) g.0 (root_row (type_key 0) false) j (rw (rows-length walk n) l)
        ∙ rows_at walk n j l

    level-old : (j : ℕ) → j < n → level_of after j ≡ level_of walk j
    level-old j l = sym (row-level after j) ∙ ap (λ (r : Row). r.level) (row_old j l) ∙ row-level walk j

    pub below_on : (up : Above) → Below walk n up → Below after end up
    below_on up b =
        let m = enters-more in
        let order = b.order in
        let low = b.low in
        record {
          inside = b.inside;
          order = omega arith;
          low = omega arith;
          earlier = λ j l. rw (level-old j (omega arith)) (b.earlier j l);
        }

    -- the rows of the level have no later level than before
    pub last_on : (lo i : ℕ) → lo ≤ i → LastFrom walk lo n → LastFrom after i n
    last_on lo i l h a b c d e = rw (level-old a d, level-old b e) (h a b (omega arith) d e)

-- a row that was read
module _ {types : ℕ} {walk : List Record} {n : ℕ} (h : Walked types walk n) (i : ℕ) (b : i < n) (e : Record) (read : e ≡ record_at walk i) where
  pub row_is : row (rows_of walk n) i ≡ row_meant e
  row_is = rows_at walk n i b ∙ row_read walk i e read

  pub row_in : e.typ.0 < types
  unfolding row_meant
  row_in = let k = rows-length walk n in let t = h.typed (row (rows_of walk n) i) (get_or-In (rows_of walk n) i _ (omega arith)) in rw row_is at t

  pub level_in : e.level ≤ i
  level_in = rw (level-read walk i e read, ← row-level walk i) (h.rowed.low i b)

  -- the rows below it
  pub row-below : (from : ℕ) (flag : Bool) → i < from → from ≤ n → LastFrom walk i from → Below walk n (record { row = i; flag = flag; level = e.level + 1; from = from })
  row-below from flag l o last =
      let a = level_in in
      record {
        inside = l;
        order = o;
        low = omega arith;
        earlier = λ j k. let z = last i j (omega arith) l k in let y = level-read walk i e read in omega arith;
      }

-- ---- one field

module _ (text : Bytes) (rows : Words) (up : Above) (m : ObjKey) (place : ℕ) where
  abbrev field : List Place
  field = places_from place (member_at text rows m ∷ [])

  pub field_plain : {b : Bool} → b ≡ embedded_read rows m → b ≡ false → [] ≡ rows_below (table_of text rows) up field
  unfolding rows_below
  field_plain e f = rw (embedded-meant text rows m ∙ sym e ∙ f)

  -- the record of the row below
  abbrev pub field_record : TypeKey → ℕ → Record
  field_record u flag = record { typ = u; parent = up.row; place = place; indirect = flag; multiples = 0; key = m; level = up.level; first = 0 }

  pub field_fits : {types : ℕ} {walk : List Record} {n : ℕ} → Walked types walk n → Below walk n up → (u : TypeKey) (flag : ℕ) → u.0 < types → Fits walk up.from n (field_record u flag)
  field_fits h b u flag l =
      let room = h.room in
      let inside = b.inside in
      let order = b.order in
      record { typed = omega arith; back = omega arith; low = b.low; plain = refl; order = b.order; earlier = b.earlier }

  module _ (lib : Library text rows) (typed : (member_type_read rows m).0 < type_count rows) {t : TypeKey} (et : t ≡ member_type_read rows m) where
    in-table : t.0 < type_count rows
    in-table = rw et typed

    pub field-target : {u : TypeKey} → u ≡ bare_read rows t → u.0 < type_count rows
    field-target e =
        let s = size-read text rows in
        let b = bare-in (table_of text rows) (library-sound lib) t (rw s in-table) in
        rw (e, ← bare-read text rows t in-table, ← s) b

    pub field_row : {b : Bool} → b ≡ embedded_read rows m → b ≡ true → {u : TypeKey} → u ≡ bare_read rows t → {p : Bool} → p ≡ pointer_read rows t → {f : Bool} → f ≡ up.flag || p → (flag : ℕ) → eqb flag 1 ≡ f
        → row_meant (field_record u flag) ∷ [] ≡ rows_below (table_of text rows) up field
    unfolding rows_below row_meant
    field_row e g eu ep ef flag eb =
        rw (embedded-meant text rows m ∙ sym e ∙ g, member-key text rows m, member-type-meant text rows m ∙ sym et, bare-read text rows t in-table ∙ sym eu, pointer-read text rows t in-table ∙ sym ep, eb, ef)

-- ---- the fields of a struct

module _ (T : Table) (up : Above) where
  below-append : (ps qs : List Place) → rows_below T up (ps ++ qs) ≡ rows_below T up ps ++ rows_below T up qs
  unfolding rows_below
  below-append ps qs =
      let emb : Place → Bool = λ p. is_embedded p.member.entity in
      ap (λ l. map (row_below up) (map (step_of T) l)) (keep_append emb ps qs)
      ∙ ap (map (row_below up)) (map-append (step_of T) (keep emb ps) (keep emb qs))
      ∙ map-append (row_below up) (map (step_of T) (keep emb ps)) (map (step_of T) (keep emb qs))

pub places-append : (n : ℕ) (l m : List Member) → places_from n (l ++ m) ≡ places_from n l ++ places_from (n + length l) m
places-append n [] m = let e : n + 0 ≡ n = omega arith in rw e
places-append n (x ∷ l) m = let e : n + suc (length l) ≡ suc n + length l = omega arith in rw e (ap (λ r. record { place = n; member = x } ∷ r) (places-append (suc n) l m))

module _ (text : Bytes) (rows : Words) (up : Above) (first : ℕ) where
  -- the rows for the first j fields
  unfoldable pub field_rows : ℕ → List Row
  field_rows j = rows_below (table_of text rows) up (places_from 0 (members_from text rows first j))

  pub fields-start : {types : ℕ} {walk : List Record} {n : ℕ} → Walked types walk n → Enters types walk n (field_rows 0) walk n
  unfolding field_rows members_from rows_below
  fields-start h = enters_none h

  fields-more : (j : ℕ) → field_rows j ++ rows_below (table_of text rows) up (places_from j (member_at text rows (obj_key (first + j)) ∷ [])) ≡ field_rows (j + 1)
  unfolding field_rows
  fields-more j =
      let s : j + 1 ≡ suc j = omega arith in
      let z : 0 + j ≡ j = omega arith in
      let m = member_at text rows (obj_key (first + j)) in
      sym (rw (s, members-more text rows first j, places-append 0 (members_from text rows first j) (m ∷ []), members-length text rows first j, z)
      (below-append (table_of text rows) up (places_from 0 (members_from text rows first j)) (places_from j (m ∷ []))))

  pub fields-on : {types : ℕ} {walk : List Record} {n : ℕ} (j : ℕ) {walk1 walk2 : List Record} {n1 n2 : ℕ} → Enters types walk n (field_rows j) walk1 n1
      → Enters types walk1 n1 (rows_below (table_of text rows) up (places_from j (member_at text rows (obj_key (first + j)) ∷ []))) walk2 n2
      → Enters types walk n (field_rows (j + 1)) walk2 n2
  fields-on j a b = enters-as _ _ (fields-more j) (enters-then (field_rows j) _ a b)

  pub fields-end : {types : ℕ} {walk : List Record} {n : ℕ} (j total : ℕ) {after : List Record} {end : ℕ} → Enters types walk n (field_rows j) after end → j ≤ total → total ≤ j
      → Enters types walk n (rows_below (table_of text rows) up (places_from 0 (members_from text rows first total))) after end
  unfolding field_rows
  fields-end j total h a b = let e : total ≡ j = omega arith in rw e h

-- ---- what a row's type embeds

module _ (text : Bytes) (rows : Words) (walk : List Record) (n i from : ℕ) (e : Record) (is : row (rows_of walk n) i ≡ row_meant e) where
  abbrev t : TypeKey
  t = e.typ

  -- what the rows below have of it
  abbrev above : Above
  above = record { row = i; flag = eqb e.indirect 1; level = e.level + 1; from = from }

  embeds-are : embeds (graph (table_of text rows)) (rows_of walk n) i ≡ rows_below (table_of text rows) above (places_from 0 (fields_of (kind_at (table_of text rows) (under (table_of text rows) t))))
  unfolding rows_below row_meant
  embeds-are = rw (is, add-one e.level)

  module _ (lib : Library text rows) (typed : e.typ.0 < type_count rows) {u : TypeKey} (eu : u ≡ under_read rows t) where
    pub under-typed : u.0 < type_count rows
    under-typed =
        let s = size-read text rows in
        let k = under-in (table_of text rows) (library-sound lib) t (rw s typed) in
        rw (eu, ← under-read text rows t typed, ← s) k

    fields-are : fields_of (kind_at (table_of text rows) (under (table_of text rows) t)) ≡ cond (eqb (number_read rows u) 8) (members_from text rows (first_read rows u) (total_read rows u)) []
    fields-are = rw (under-read text rows t typed ∙ sym eu) (fields_read text rows u under-typed)

    pub embeds-none : {k : ℕ} → k ≡ number_read rows u → k ≢ 8 → [] ≡ embeds (graph (table_of text rows)) (rows_of walk n) i
    unfolding rows_below
    embeds-none ek ne = sym (embeds-are ∙ rw (fields-are, ← ek, ne_eqb _ 8 ne))

    module _ {k : ℕ} (ek : k ≡ number_read rows u) (eight : k ≡ 8) {first total : ℕ} (ef : first ≡ first_read rows u) (et : total ≡ total_read rows u) where
      struct : eqb (number_read rows u) 8 ≡ true
      struct = eq-eqb (number_read rows u) 8 (sym ek ∙ eight)

      pub embeds-some : rows_below (table_of text rows) above (places_from 0 (members_from text rows first total)) ≡ embeds (graph (table_of text rows)) (rows_of walk n) i
      embeds-some = sym (embeds-are ∙ rw (fields-are, struct, ef, et))

      pub fields_fit : first + total ≤ max_elements
      unfolding first_read total_read end_of
      fields_fit =
          let w = lib.laid.within u under-typed in
          let m = lib.laid.members in
          let c = lib.laid.elements in
          rw (ef, et) (cases (eqb (type_word rows u 0) 6) (λ z. let v = rw z at w in omega arith) (λ z. let v = rw z at w in omega arith))

      pub fields-typed : FieldsTyped rows first total
      fields-typed j z =
          let T = table_of text rows in
          let m = member_at text rows (obj_key (first + j)) in
          let q : In m (fields_of (kind_at T u)) = rw (fields_read text rows u under-typed, struct, ← ef, ← et) (members-have text rows first total j z) in
          let s = size-read text rows in
          let t = (library-sound lib).typed u m (if-In (is_struct (kind_at T u)) (members_of (kind_at T u)) m q).1 in
          rw (← member-type-meant text rows (obj_key (first + j)), ← s) t

-- ---- the rows of a level

module _ (text : Bytes) (rows : Words) (walk : List Record) (n lo : ℕ) where
  -- what the rows from lo up to i embed
  unfoldable pub level_rows : ℕ → List Row
  level_rows i = flat (embeds (graph (table_of text rows)) (rows_of walk n)) (range lo (i - lo))

  pub level-start : {types : ℕ} → Walked types walk n → Enters types walk n (level_rows lo) walk n
  unfolding level_rows
  level-start h = let e : lo - lo ≡ 0 = omega arith in rw e (enters_none h)

  level-more : (i : ℕ) → lo ≤ i → level_rows i ++ embeds (graph (table_of text rows)) (rows_of walk n) i ≡ level_rows (i + 1)
  unfolding level_rows
  level-more i l =
      let f = embeds (graph (table_of text rows)) (rows_of walk n) in
      let z : i + 1 - lo ≡ (i - lo) + 1 = omega arith in
      let y : lo + (i - lo) ≡ i = omega arith in
      sym (rw (z, range-append lo (i - lo) 1, y) (flat_append f (range lo (i - lo)) (i ∷ []) ∙ ap (λ r. flat f (range lo (i - lo)) ++ r) (append-nil (f i))))

  pub level-on : {types : ℕ} (i : ℕ) → lo ≤ i → i < n → {walk1 walk2 : List Record} {n1 n2 : ℕ} → Enters types walk n (level_rows i) walk1 n1
      → Enters types walk1 n1 (embeds (graph (table_of text rows)) (rows_of walk1 n1) i) walk2 n2 → Enters types walk n (level_rows (i + 1)) walk2 n2
  level-on i l b {walk1} {walk2} {n1} {n2} a k =
      let g = enters-old (level_rows i) a in
      let s : embeds (graph (table_of text rows)) (rows_of walk1 n1) i ≡ embeds (graph (table_of text rows)) (rows_of walk n) i =
      ap (λ R. embeds (graph (table_of text rows)) R i) g.1 ∙ embeds-old (graph (table_of text rows)) (rows_of walk n) g.0 i (rw (rows-length walk n) b) in
      enters-as _ _ (level-more i l) (enters-then (level_rows i) (embeds (graph (table_of text rows)) (rows_of walk n) i) a (enters-as _ _ s k))

  pub level-end : {types : ℕ} (i : ℕ) {after : List Record} {end : ℕ} → Enters types walk n (level_rows i) after end → i ≤ n → n ≤ i
      → Enters types walk n (flat (embeds (graph (table_of text rows)) (rows_of walk n)) (range lo (n - lo))) after end
  unfolding level_rows
  level-end i h a b = let e : i ≡ n = omega arith in rw e at h
