-- The whole text, line by line (2 to 6): the header, and what is left to read.
use mathlib.Core.Path.{◌≡◌, refl, sym, ap, subst, ◌∙◌}
use mathlib.Core.Bool.{Bool, true, false, cond, ◌&&◌}
use mathlib.Core.List.{List, [], ◌∷◌, ◌++◌}
use mathlib.Core.Option.{Option, none, some}
use Prim.Native.Nat.{ℕ, suc, ◌+◌, ◌-◌, ◌≤◌, ◌<◌}
use native.Mathlib.Numerals.{add-one}
use native.Mathlib.Omega.{arith}
use lib.Dec.{eqb}
use lib.ListN.{length, get_or, take, drop, replicate, get_or-replicate, length-take, length-drop, length-append, take-append-drop}
use borrow.Author.Tests.{eq-eqb, ne_eqb, eqb-true, lt-ltb, le-ltb}
use Rattle.objects.specs.Bounds.{max_text, types_at, bounds}
use Rattle.objects.specs.Lists.{Bytes, empty, any}
use Rattle.objects.specs.Table.{Table, size, member_count, obj_key, with_member, no_table, plus_package, plus_type, plus_member}
use Rattle.objects.specs.Rows.{Words, word_at, type_count, member_count_of, element_count, table_of}
use Rattle.objects.specs.Laid.{Laid}
use Rattle.objects.proofs.ListLaws.{cases, clash, or_l, or_r}
use Rattle.objects.proofs.PartLaws.{on_last-length}
use Rattle.objects.proofs.RowLaws.{size-read, member-count-read}
use Rattle.objects.proofs.Writing.{zeros-hold}
use Rattle.text.specs.declared.Cursor.{Cursor}
use Rattle.text.specs.Bytes.{ascii, same_bytes}
use Rattle.text.specs.Lines.{before, split, pieces, fields}
use Rattle.text.specs.Cursors.{part, line_end, fields_left}
use Rattle.text.proofs.ByteLaws.{same_true}
use Rattle.text.proofs.LineLaws.{Free, split_at, split-first}
use Rattle.text.proofs.LineEnds.{pieces-at, line-within}
use Rattle.rules.specs.Forms.{Line, package_line, type_line, member_line, line_of}
use Rattle.rules.specs.Load.{Loaded, refused, loaded, added, in_place, has_room, line_added, lines_from, then_checked, headed, load_within, load}
use Rattle.line_forms.specs.Weights.{weight, line_types, types_in, line_members, members_in}
use Rattle.line_forms.proofs.Weights.{fields-weight, brought}
use Rattle.std.specs.Prelude.{Result, Ok, Err}
use Rattle.objects.specs.declared.refusals.Reason.{Reason}
use Rattle.objects.specs.Refusals.{reason_number}
use Rattle.lines.specs.Adding.{verdict_meant, bytes_taken, Grown}
use Rattle.lines.specs.Reading.{header}

-- ---- the header

-- the first of several pieces is w
abbrev opens : Bytes → List Bytes → Bool
opens w [] = false
opens w (p ∷ []) = false
opens w (p ∷ q ∷ ps) = same_bytes p w

header-test : (w text : Bytes) → Free 10 w → same_bytes (take (suc (length w)) text) (w ++ (10 ∷ [])) ≡ opens w (split 10 text)
unfolding split
header-test [] [] f = refl
header-test [] (b ∷ s) f = go (eqb b 10) refl (split 10 s) (split-first 10 s).0 (split-first 10 s).1 (split-first 10 s).2
  where
    go : (t : Bool) → eqb b 10 ≡ t → (ps : List Bytes) (x : Bytes) (r : List Bytes) → ps ≡ x ∷ r → same_bytes (take 1 (b ∷ s)) (10 ∷ []) ≡ opens [] (before (eqb b 10) b ps)
    go true e ps x r q = rw (e, q)
    go false e ps x [] q = rw (e, q)
    go false e ps x (y ∷ r) q = rw (e, q)
header-test (v ∷ w) [] f = refl
header-test (v ∷ w) (b ∷ s) f =
    go (eqb b 10) refl (split 10 s) (split-first 10 s).0 (split-first 10 s).1 (split-first 10 s).2 (header-test w s (or_r (eqb v 10) (any (λ c. eqb c 10) w) f))
  where
    go : (t : Bool) → eqb b 10 ≡ t → (ps : List Bytes) (x : Bytes) (r : List Bytes) → ps ≡ x ∷ r → same_bytes (take (suc (length w)) s) (w ++ (10 ∷ [])) ≡ opens w ps
        → eqb b v && same_bytes (take (suc (length w)) s) (w ++ (10 ∷ [])) ≡ opens (v ∷ w) (before (eqb b 10) b ps)
    go true e ps x r q h =
        let z = eqb-true b 10 e in
        let ne : eqb b v ≡ false = ne_eqb b v (λ i. clash (eq-eqb v 10 (sym i ∙ z)) (or_l (eqb v 10) (any (λ c. eqb c 10) w) f)) in
        rw (e, ne, q)
    go false e ps x [] q h = let k = rw q at h in rw (e, q, k) (cases (eqb b v) (λ i. rw i) (λ i. rw i))
    go false e ps x (y ∷ r) q h = let k = rw q at h in rw (e, q, k)

headed-opens : (w : Bytes) (ps : List Bytes) → w ≡ ascii "typetable\t1" → opens w ps ≡ false → headed bounds ps ≡ refused 3 1
headed-opens w [] e h = refl
headed-opens w (p ∷ []) e h = refl
headed-opens w (p ∷ q ∷ ps) e h = let k = rw e at h in rw k

module _ (text : Bytes) where
  pub too-long : max_text < length text → load text ≡ then_checked (refused 2 0)
  unfolding load_within
  too-long h = rw (lt-ltb max_text (length text) h)

  module _ (short : length text ≤ max_text) {t : Bool} (p : t ≡ same_bytes (take (length header) (drop 0 text)) header) where
    pub no_header : t ≡ false → load text ≡ then_checked (refused 3 1)
    unfolding load_within pieces
    no_header e =
        rw (le-ltb max_text (length text) short)
        (headed-opens (ascii "typetable\t1") (split 10 text) refl (sym (header-test (ascii "typetable\t1") text refl) ∙ sym p ∙ e))

    pub header-fits : t ≡ true → length header ≤ length text
    header-fits e =
        let k = ap length (same_true (take 12 text) (ascii "typetable\t1\n") (sym p ∙ e)) in
        let l = length-take 12 text in
        omega arith

    pub header_read : t ≡ true → load text ≡ then_checked (lines_from bounds 2 no_table (pieces (drop (length header) text)))
    unfolding load_within pieces
    header_read e =
        let k = same_true (take 12 text) (ascii "typetable\t1\n") (sym p ∙ e) in
        let d : text ≡ ascii "typetable\t1" ++ (10 ∷ drop 12 text) = sym (take-append-drop 12 text) ∙ ap (λ x. x ++ drop 12 text) k in
        let i : split 10 text ≡ ascii "typetable\t1" ∷ split 10 (drop 12 text) = ap (split 10) d ∙ split_at 10 (ascii "typetable\t1") (drop 12 text) refl in
        let r = split-first 10 (drop 12 text) in
        rw (le-ltb max_text (length text) short, i, r.2)

-- ---- what a line brings

-- what is counted in a table grows by what the line brings of it
module _ (count : Table → ℕ) (brings : Option Line → ℕ) (more : (T : Table) (line : ℕ) (l : Line) → count (added T line l) ≡ count T + brings (some l)) where
  counted : Loaded → ℕ
  counted (refused n line) = 0
  counted (loaded T) = count T

  count-few : (T : Table) (line : ℕ) (o : Option Line) → counted (line_added bounds T line o) ≤ count T + brings o
  unfolding counted
  count-few T line none = omega arith
  count-few T line (some l) =
      let m = more T line l in
      cases (in_place T l) (λ e. cases (has_room bounds T l) (λ h. rw (e, h) (omega arith)) (λ h. rw (e, h) (omega arith))) (λ e. rw e (omega arith))

  count-grown : (text : Bytes) (rows after : Words) (line : ℕ) (o : Option Line) → Grown text rows line o after (Ok tt) → count (table_of text after) ≤ count (table_of text rows) + brings o
  unfolding verdict_meant counted
  count-grown text rows after line o g =
      let w = count-few (table_of text rows) line o in
      let e = ap counted g.meant in
      omega arith

members-added : (T : Table) (line : ℕ) (l : Line) → member_count (added T line l) ≡ member_count T + members_in (some l)
unfolding added plus_package plus_type plus_member members_in line_members
members-added T line (package_line path) = omega arith
members-added T line (type_line k) = omega arith
members-added T line (member_line name pkg type e) = length-append T.member_lines (line ∷ [])

types-added : (T : Table) (line : ℕ) (l : Line) → size (added T line l) ≡ size T + types_in (some l)
unfolding added plus_package plus_type plus_member types_in line_types
types-added T line (package_line path) = omega arith
types-added T line (type_line k) = length-append T.types (k ∷ [])
types-added T line (member_line name pkg type e) = let l = on_last-length (with_member (record { key = obj_key (member_count T); name = name; pkg = pkg; type = type; entity = e })) T.types in omega arith

module _ (text : Bytes) (rows after : Words) (line : ℕ) (o : Option Line) (g : Grown text rows line o after (Ok tt)) where
  members-grown : member_count_of after ≤ member_count_of rows + members_in o
  members-grown = let h = count-grown member_count members_in members-added text rows after line o g in let a = member-count-read text after in let b = member-count-read text rows in omega arith

  types-grown : type_count after ≤ type_count rows + types_in o
  types-grown = let h = count-grown size types_in types-added text rows after line o g in let a = size-read text after in let b = size-read text rows in omega arith

-- ---- what is left

module _ (line : ℕ) (T : Table) (p x : Bytes) (r : List Bytes) where
  step-refused : (n l : ℕ) → line_added bounds T line (line_of (fields p)) ≡ refused n l → lines_from bounds line T (p ∷ x ∷ r) ≡ refused n l
  unfolding lines_from
  step-refused n l e = rw (lines_from, e)

  step-loaded : (U : Table) → line_added bounds T line (line_of (fields p)) ≡ loaded U → lines_from bounds line T (p ∷ x ∷ r) ≡ lines_from bounds (suc line) U (x ∷ r)
  unfolding lines_from
  step-loaded U e = rw (lines_from, e)

-- at the end of the text
module _ (text : Bytes) (at line : ℕ) (T : Table) (within : at ≤ length text) {end : ℕ} (p : end ≡ line_end text at) where
  piece-here : pieces (drop at text) ≡ part text at end ∷ cond (eqb end (length text)) [] (pieces (drop (end + 1) text))
  piece-here = rw p (pieces-at text at within)

  pub end-within : end ≤ length text
  end-within = rw p (line-within text at within)

  pub end-behind : at ≤ end
  unfolding line_end
  end-behind = omega arith

  part-empty : at ≡ end → empty (part text at end) ≡ true
  unfolding part
  part-empty e = let z : end - at ≡ 0 = omega arith in rw z

  part_length : length (part text at end) ≡ end - at
  unfolding part
  part_length =
      let a = length-take (end - at) (drop at text) in
      let b = length-drop at text in
      let w = end-within in
      omega arith

  part-some : (at ≡ end → ⊥) → empty (part text at end) ≡ false
  part-some ne = go (part text at end) part_length
    where
      go : (l : Bytes) → length l ≡ end - at → empty l ≡ false
      go [] h = let w = end-behind in absurd (ne (omega arith))
      go (b ∷ l) h = refl

  module _ (z : end ≡ length text) where
    last-here : lines_from bounds line T (pieces (drop at text)) ≡ cond (empty (part text at end)) (loaded T) (refused 4 line)
    unfolding lines_from
    last-here = rw (piece-here, eq-eqb end (length text) z)

    pub text-ends : at ≡ end → lines_from bounds line T (pieces (drop at text)) ≡ loaded T
    text-ends e = last-here ∙ rw (part-empty e)

    pub line-cut : (at ≡ end → ⊥) → lines_from bounds line T (pieces (drop at text)) ≡ refused 4 line
    line-cut ne = last-here ∙ rw (part-some ne)

  -- a line and its newline
  module _ (ne : end ≡ length text → ⊥) {c : Cursor} (q : c ≡ record { at = at; end = end; more = true }) where
    pub line-left : fields_left text c ≡ fields (part text at end)
    unfolding fields_left
    line-left = rw q

    pub line-room : (rows : Words) → bytes_taken rows ≤ at → bytes_taken rows + weight (fields_left text c) ≤ length text
    line-room rows h =
        let f = fields-weight (part text at end) in
        let e : weight (fields_left text c) ≡ weight (fields (part text at end)) = ap weight line-left in
        let l = part_length in
        let b = end-within in
        let d = end-behind in
        let n : end < length text = omega (arith, ne) in
        omega arith

    pub line-brings : (rows after : Words) → bytes_taken rows ≤ at → Grown text rows line (line_of (fields_left text c)) after (Ok tt) → bytes_taken after ≤ end + 1
    line-brings rows after h g =
        let w = brought (fields_left text c) in
        let few = g.few in
        let m = members-grown text rows after line (line_of (fields_left text c)) g in
        let t = types-grown text rows after line (line_of (fields_left text c)) g in
        let f = fields-weight (part text at end) in
        let e : weight (fields_left text c) ≡ weight (fields (part text at end)) = ap weight line-left in
        let l = part_length in
        let d = end-behind in
        omega arith

    -- one line of several pieces
    several : (x : Bytes) (r : List Bytes) → pieces (drop (end + 1) text) ≡ x ∷ r → pieces (drop at text) ≡ part text at end ∷ x ∷ r
    several x r h = piece-here ∙ rw (ne_eqb end (length text) ne, h)

    module _ (rows after : Words) (v : Result (Unit {0}) Reason) (t : T ≡ table_of text rows) (g : line_added bounds (table_of text rows) line (line_of (fields_left text c)) ≡ verdict_meant text after line v) where
      next-piece : (x : Bytes) × (r : List Bytes) × (pieces (drop (end + 1) text) ≡ x ∷ r)
      unfolding pieces
      next-piece = split-first 10 (drop (end + 1) text)

      line-meant : (L : Loaded) → verdict_meant text after line v ≡ L → line_added bounds T line (line_of (fields (part text at end))) ≡ L
      line-meant L e = ap (λ U. line_added bounds U line (line_of (fields (part text at end)))) t ∙ ap (λ fs. line_added bounds (table_of text rows) line (line_of fs)) (sym line-left) ∙ g ∙ e

      pub line_refused : {reason : Reason} → v ≡ Err reason → lines_from bounds line T (pieces (drop at text)) ≡ refused (reason_number reason) line
      unfolding verdict_meant
      line_refused {reason} e =
          let r = next-piece in
          ap (lines_from bounds line T) (several r.0 r.1 r.2) ∙ step-refused line T (part text at end) r.0 r.1 (reason_number reason) line (line-meant (refused (reason_number reason) line) (ap (verdict_meant text after line) e))

      pub line_read : v ≡ (Ok tt) → lines_from bounds line T (pieces (drop at text)) ≡ lines_from bounds (line + 1) (table_of text after) (pieces (drop (end + 1) text))
      unfolding verdict_meant
      line_read e =
          let r = next-piece in
          ap (lines_from bounds line T) (several r.0 r.1 r.2)
          ∙ step-loaded line T (part text at end) r.0 r.1 (table_of text after) (line-meant (loaded (table_of text after)) (ap (verdict_meant text after line) e))
          ∙ ap (lines_from bounds (suc line) (table_of text after)) (sym r.2)
          ∙ ap (λ l. lines_from bounds l (table_of text after) (pieces (drop (end + 1) text))) (sym (add-one line))

-- ---- before the first line

pub none-held : (text : Bytes) (rows : Words) → rows ≡ replicate (length rows) 0 → types_at ≤ length rows → Laid rows × (table_of text rows ≡ no_table)
none-held text rows z h = let k = zeros-hold (length rows) h in (subst Laid (sym z) k.laid, ap (table_of text) z ∙ k.held text)

pub none-taken : (rows : Words) → rows ≡ replicate (length rows) 0 → types_at ≤ length rows → bytes_taken rows ≡ 0
unfolding type_count member_count_of element_count word_at
none-taken rows z h = let t = zero-at 1 (omega arith) in let m = zero-at 2 (omega arith) in let e = zero-at 3 (omega arith) in omega arith
  where
    zero-at : (i : ℕ) → i < 4 → get_or rows i 0 ≡ 0
    zero-at i l = ap (λ r. get_or r i 0) z ∙ get_or-replicate (length rows) i 0 0 (omega arith)
