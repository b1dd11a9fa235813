-- The elements of a tuple, read and put one after the other.
use mathlib.Core.Path.{◌≡◌, refl, sym, ap, subst, ◌∙◌}
use mathlib.Core.Bool.{Bool, true, false, not}
use mathlib.Core.List.{List, [], ◌∷◌, ◌++◌, append-nil, append_assoc}
use mathlib.Core.Option.{Option, none, some}
use Prim.Native.Nat.{ℕ, suc, ◌+◌, ◌*◌, ◌≤◌, ◌<◌}
use native.Mathlib.Omega.{arith}
use lib.ListN.{length}
use Rattle.objects.specs.declared.TypeKey.{TypeKey}
use Rattle.objects.specs.declared.PackageKey.{PackageKey}
use Rattle.objects.specs.Bounds.{max_reference, max_text, max_types, max_elements, row_words, room_for}
use Rattle.objects.specs.Lists.{Bytes, empty, last_or, on_last, mapped}
use Rattle.objects.specs.Table.{Table, Kind, Basic, Array, Slice, Pointer, Map, Chan, Tuple, Func, Struct, Iface, Named, type_key, kind_number, Numbered, plus_type}
use Rattle.objects.specs.Rows.{Words, type_count, member_count_of, element_count, type_word, package_meant, kind_of, elements_from, table_of}
use Rattle.objects.specs.Laid.{used, Laid, Holds, last_type, element_added, plus_element}
use Rattle.objects.proofs.RoomLaws.{types-room, members-room}
use Rattle.objects.proofs.ListLaws.{clash}
use Rattle.objects.proofs.Numbers.{on_last-at}
use Rattle.text.specs.declared.Cursor.{Cursor}
use Rattle.text.specs.Bytes.{number}
use Rattle.text.specs.Cursors.{fields_left}
use Rattle.text.proofs.FieldLaws.{done-left}
use Rattle.text.proofs.AnswerLaws.{none-some, field-some}
use Rattle.rules.specs.Forms.{Line, type_line, line_of}
use Rattle.rules.proofs.FormLaws.{line-formed}
use Rattle.rules.specs.Load.{last_kind}
use Rattle.line_forms.specs.declared.Form.{Form}
use Rattle.line_forms.specs.Steps.{numbered, all_read, elements_read, tuple_of}
use Rattle.line_forms.specs.Weights.{weight, tuple_size, line_types, types_in, line_members, members_in, line_elements, elements_of}
use Rattle.line_forms.specs.Forms.{small_read, form_meant, unread}
use Rattle.line_forms.proofs.Weights.{elements-few, brought}
use Rattle.std.specs.Prelude.{Result, Ok, Err}
use Rattle.objects.specs.declared.refusals.Reason.{Reason}
use Rattle.std.specs.Prelude.{Some, None}
use Rattle.std.specs.declared.option.Option as code
use Rattle.lines.specs.Adding.{bytes_taken, TypeSpace, with_elements, Grown}
use Rattle.lines.proofs.AboveLaws.{last_or-snoc, tuple-last}
use Rattle.lines.proofs.AddLaws.{refusing, members_kept, type-full, kind-added}

-- ---- reading

-- a number is read: it is the first element, and the rest is behind it
one_more : (fs : List Bytes) (v : ℕ) (rest : List Bytes) → numbered max_reference fs ≡ some (v, rest)
    → (all_read fs ≡ all_read rest) × (elements_read fs ≡ type_key v ∷ elements_read rest) × (length fs ≡ suc (length rest))
unfolding numbered all_read elements_read
one_more fs v rest h = let r = field-some (number max_reference) fs h in go r.0 r.1 r.2
  where
    go : (b : Bytes) → fs ≡ b ∷ rest → number max_reference b ≡ some v → (all_read fs ≡ all_read rest) × (elements_read fs ≡ type_key v ∷ elements_read rest) × (length fs ≡ suc (length rest))
    go b q e = (ap all_read q ∙ rw (all_read, e), ap elements_read q ∙ rw (elements_read, e), ap length q)

-- none is read
no_more : (fs : List Bytes) → numbered max_reference fs ≡ none → (elements_read fs ≡ []) × (empty fs ≡ false → all_read fs ≡ false)
unfolding numbered all_read elements_read
no_more [] h = (refl, (λ e. clash refl e))
no_more (b ∷ fs) h = go (number max_reference b) refl h
  where
    go : (o : Option ℕ) → number max_reference b ≡ o → ◌≡◌ {A = Option (ℕ × List Bytes)} (mapped (λ n. (n, fs)) o) none → (elements_read (b ∷ fs) ≡ []) × (empty (b ∷ fs) ≡ false → all_read (b ∷ fs) ≡ false)
    go none e k = (rw (elements_read, e), (λ _. rw (all_read, e)))
    go (some n) e k = none-some (sym k)

module _ (s : Bytes) (c : Cursor) where
  pub elements-done : {t : Bool} → t ≡ not c.more → t ≡ true → elements_read (fields_left s c) ≡ []
  unfolding elements_read
  elements-done p e = go (fields_left s c) (done-left s c ∙ sym p ∙ e)
    where
      go : (l : List Bytes) → empty l ≡ true → elements_read l ≡ []
      go [] h = refl
      go (b ∷ l) h = clash h refl

  pub all_done : {t : Bool} → t ≡ not c.more → t ≡ true → all_read (fields_left s c) ≡ true
  unfolding all_read
  all_done p e = go (fields_left s c) (done-left s c ∙ sym p ∙ e)
    where
      go : (l : List Bytes) → empty l ≡ true → all_read l ≡ true
      go [] h = refl
      go (b ∷ l) h = clash h refl

  module _ (r : code.Option (ℕ × Cursor)) (p : small_read s r ≡ numbered max_reference (fields_left s c)) where
    pub all-wrong : {t : Bool} → t ≡ not c.more → t ≡ false → r ≡ None → all_read (fields_left s c) ≡ false
    unfolding small_read
    all-wrong q e w = (no_more (fields_left s c) (sym p ∙ ap (small_read s) w)).1 (done-left s c ∙ sym q ∙ e)

    pub elements-end : r ≡ None → elements_read (fields_left s c) ≡ []
    unfolding small_read
    elements-end w = (no_more (fields_left s c) (sym p ∙ ap (small_read s) w)).0

    module _ {v : ℕ} {d : Cursor} (w : r ≡ Some (v, d)) where
      more-here : numbered max_reference (fields_left s c) ≡ some (v, fields_left s d)
      unfolding small_read
      more-here = sym p ∙ ap (small_read s) w

      pub all_more : all_read (fields_left s c) ≡ all_read (fields_left s d)
      all_more = (one_more (fields_left s c) v (fields_left s d) more-here).0

      pub elements-more : elements_read (fields_left s c) ≡ type_key v ∷ elements_read (fields_left s d)
      elements-more = (one_more (fields_left s c) v (fields_left s d) more-here).1

      pub fields-fall : length (fields_left s d) < length (fields_left s c)
      fields-fall = let e = (one_more (fields_left s c) v (fields_left s d) more-here).2 in omega arith

-- ---- putting

element-number : (e : TypeKey) (k : Kind) → kind_number (element_added e k) ≡ kind_number k
element-number t (Basic k) = refl
element-number t (Array n e) = refl
element-number t (Slice e) = refl
element-number t (Pointer e) = refl
element-number t (Map k e) = refl
element-number t (Chan d e) = refl
element-number t (Tuple es) = refl
element-number t (Func v p r) = refl
element-number t (Struct ms) = refl
element-number t (Iface ms) = refl
element-number t (Named u ms) = refl

last-number : (e : TypeKey) (d : Kind) (l : List Kind) → kind_number (last_or d (on_last (element_added e) l)) ≡ kind_number (last_or d l)
last-number e d [] = refl
last-number e d (x ∷ []) = element-number e x
last-number e d (x ∷ y ∷ l) = last-number e x (y ∷ l)

plus-number : (T : Table) (e : TypeKey) → kind_number (last_kind (plus_element T e)) ≡ kind_number (last_kind T)
unfolding plus_element
plus-number T e = last-number e (Basic 0) T.types

plus-element : (T : Table) (line : ℕ) (ds : List TypeKey) (e : TypeKey) → plus_element (plus_type T line (Tuple ds)) e ≡ plus_type T line (Tuple (ds ++ (e ∷ [])))
unfolding plus_element plus_type
plus-element T line ds e = rw (on_last-at (element_added e) T.types (Tuple ds))

with-elements : (T : Table) (line : ℕ) (ds es : List TypeKey) → with_elements (plus_type T line (Tuple ds)) es ≡ plus_type T line (Tuple (ds ++ es))
unfolding with_elements
with-elements T line ds [] = ap (λ x. plus_type T line (Tuple x)) (sym (append-nil ds))
with-elements T line ds (e ∷ es) =
    ap (λ U. with_elements U es) (plus-element T line ds e) ∙ with-elements T line (ds ++ (e ∷ [])) es ∙ ap (λ x. plus_type T line (Tuple x)) (append_assoc ds (e ∷ []) es)

-- one turn of the loop
module _ (s : Bytes) (rows after : Words) (e : TypeKey) (held : Holds after (λ text. plus_element (table_of text rows) e)) where
  pub element-members : member_count_of after ≡ member_count_of rows
  unfolding plus_element
  element-members = members_kept s rows after (λ text. plus_element (table_of text rows) e) held refl

  pub still-tuple : kind_number (last_kind (table_of s rows)) ≡ 6 → kind_number (last_kind (table_of s after)) ≡ 6
  still-tuple h = ap (λ T. kind_number (last_kind T)) (held.held s) ∙ plus-number (table_of s rows) e ∙ h

  pub turn : {l : List TypeKey} (es : List TypeKey) → l ≡ e ∷ es → with_elements (table_of s rows) l ≡ with_elements (table_of s after) es
  unfolding with_elements
  turn es q = rw (q, held.held s)

pub turn_end : (T : Table) {l : List TypeKey} → l ≡ [] → with_elements T l ≡ T
unfolding with_elements
turn_end T q = rw q

-- what the writer asks
pub element-ready : (s : Bytes) (rows : Words) → Laid rows → kind_number (last_kind (table_of s rows)) ≡ 6 → element_count rows < max_elements → used rows < length rows
    → Laid rows × (element_count rows < max_elements) × (0 < type_count rows) × (type_word rows (last_type rows) 0 ≡ 6) × (used rows < length rows)
element-ready s rows laid h few w = (laid, few, (tuple-last s rows h).0, (tuple-last s rows h).1, w)

-- ---- the line of a tuple

tuple-kind : (text : Bytes) (rows : Words) → kind_of text rows 6 0 0 0 0 0 ≡ Tuple []
unfolding kind_of elements_from
tuple-kind text rows = refl

tuple-brings : (es : List TypeKey) {x y z : ℕ} → y ≡ x → z ≡ y + length es → z ≤ x + elements_of (some (type_line (Tuple es)))
unfolding elements_of line_elements tuple_size
tuple-brings es a b = omega arith

-- behind the new type, which has no elements yet
module _ (s : Bytes) (rows mid : Words) (line : ℕ) (held : Holds mid (λ x. plus_type (table_of x rows) line (kind_of x rows 6 0 0 0 0 0))) where
  mid-table : table_of s mid ≡ plus_type (table_of s rows) line (Tuple [])
  mid-table = held.held s ∙ ap (plus_type (table_of s rows) line) (tuple-kind s rows)

  pub tuple-members : member_count_of mid ≡ member_count_of rows
  unfolding plus_type
  tuple-members = members_kept s rows mid (λ x. plus_type (table_of x rows) line (kind_of x rows 6 0 0 0 0 0)) held refl

  pub new-tuple : kind_number (last_kind (table_of s mid)) ≡ 6
  unfolding plus_type
  new-tuple = ap (λ T. kind_number (last_kind T)) mid-table ∙ ap kind_number (last_or-snoc (Basic 0) (table_of s rows).types (Tuple []))

module _ (s : Bytes) (rows : Words) (line : ℕ) (laid : Laid rows) (fs : List Bytes) {t : Bool} (p : t ≡ all_read fs) where
  pub tuple-wrong : {after : Words} → Laid after → t ≡ false → Grown s rows line (tuple_of fs) after (Err Reason.Form)
  unfolding tuple_of
  tuple-wrong l e = refusing s rows line (tuple_of fs) Reason.Form l (rw (sym p ∙ e))

  module _ (e : t ≡ true) {n : ℕ} (q : n ≡ type_count rows) where
    tuple_is : tuple_of fs ≡ some (type_line (Tuple (elements_read fs)))
    unfolding tuple_of
    tuple_is = rw (sym p ∙ e)

    pub tuple-full : max_types ≤ n → Grown s rows line (tuple_of fs) rows (Err Reason.Room)
    tuple-full h = rw tuple_is (type-full rows line laid q s (Tuple (elements_read fs)) h)

    pub tuple-added : (mid : Words) → Holds mid (λ x. plus_type (table_of x rows) line (kind_of x rows 6 0 0 0 0 0)) → n < max_types
        → (after : Words) → Laid after → table_of s after ≡ with_elements (table_of s mid) (elements_read fs)
        → element_count mid ≡ element_count rows → element_count after ≡ element_count mid + length (elements_read fs) → Grown s rows line (tuple_of fs) after (Ok tt)
    tuple-added mid held h after l m a b =
        rw tuple_is (kind-added rows line laid q s (Tuple (elements_read fs)) h after l
        (m ∙ ap (λ T. with_elements T (elements_read fs)) (mid-table s rows mid line held) ∙ with-elements (table_of s rows) line [] (elements_read fs)) (tuple-brings (elements_read fs) a b))

-- ---- a line by its form

module _ (s : Bytes) (rows : Words) (line : ℕ) (r : code.Option Form) {o : Option Line} (p : form_meant s r ≡ o) where
  pub grown-form : {f : code.Option Form} {after : Words} {v : Result (Unit {0}) Reason} → r ≡ f → Grown s rows line (form_meant s f) after v → Grown s rows line o after v
  grown-form {f} {after} {v} q g = subst (λ x. Grown s rows line x after v) (sym (ap (form_meant s) q) ∙ p) g

-- what the writers ask: of the number of a package
pub member-numbered : (s : Bytes) (fs : List Bytes) (r : code.Option Form) → form_meant s r ≡ line_of fs
    → {name count : ℕ} {pkg : code.Option PackageKey} {t form tag width : ℕ} → r ≡ Some (Form.Member name count pkg t form tag width) → Numbered (package_meant pkg)
unfolding form_meant
member-numbered s fs r p q = (line-formed fs _ (sym p ∙ ap (form_meant s) q)).numbered

-- and of room, from the bytes that are left
module _ (s : Bytes) (rows : Words) (fs : List Bytes) (r : code.Option Form) (laid : Laid rows) (short : length s ≤ max_text) (taken : bytes_taken rows + weight fs ≤ length s) (room : room_for (length s) ≤ length rows) where
  pub member-space : form_meant s r ≡ line_of fs → {name count : ℕ} {pkg : code.Option PackageKey} {t form tag width : ℕ} → r ≡ Some (Form.Member name count pkg t form tag width) → used rows + row_words ≤ length rows
  unfolding form_meant members_in line_members
  member-space p q =
      let one : 1 ≡ members_in (line_of fs) = ap members_in (sym (ap (form_meant s) q) ∙ p) in
      let w = brought fs in
      let m = laid.members in
      let k = members-room (length rows) (length s) (row_words * member_count_of rows + element_count rows + row_words) room (omega arith) (omega arith) in
      omega arith

  -- a type's line has 8 bytes
  space-for-type : 8 ≤ weight fs → TypeSpace rows
  space-for-type eight few = let k = types-room (length rows) (length s) (row_words * type_count rows + row_words) room (omega arith) (omega arith) in omega arith

  pub type-space : form_meant s r ≡ line_of fs → {kind a b c : ℕ} → r ≡ Some (Form.«Type» kind a b c) → TypeSpace rows
  unfolding form_meant types_in line_types
  type-space p q =
      let one : 1 ≡ types_in (line_of fs) = ap types_in (sym (ap (form_meant s) q) ∙ p) in
      let w = brought fs in
      space-for-type (omega arith)

  pub tuple-space : unread s r ≤ weight fs → {d : Cursor} → r ≡ Some (Form.Tuple d)
      → (element_count rows + length (elements_read (fields_left s d)) ≤ max_elements) × (used rows + length (elements_read (fields_left s d)) ≤ length rows) × TypeSpace rows
  unfolding unread
  tuple-space p {d} q =
      let few = elements-few (fields_left s d) in
      let e : unread s r ≡ 8 + weight (fields_left s d) = ap (unread s) q in
      let m = laid.members in
      let n = length (elements_read (fields_left s d)) in
      let k = members-room (length rows) (length s) (row_words * member_count_of rows + element_count rows + n) room (omega arith) (omega arith) in
      (omega arith, omega arith, space-for-type (omega arith))
