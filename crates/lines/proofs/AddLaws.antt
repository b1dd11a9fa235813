-- What one line leaves (4 to 6), by what the code has tested and what the writers say of the rows.
use mathlib.Core.Path.{◌≡◌, refl, sym, ap, ◌∙◌}
use mathlib.Core.Bool.{Bool, true, false}
use mathlib.Core.List.{[]}
use mathlib.Core.Logic.{◌≢◌}
use mathlib.Core.Option.{Option, some}
use Prim.Native.Nat.{ℕ, ◌+◌, ◌≤◌, ◌<◌}
use native.Mathlib.Omega.{arith}
use lib.Dec.{eqb, ltb}
use lib.ListN.{length}
use borrow.Author.Tests.{eq-eqb, ne_eqb, lt-ltb, le-ltb}
use Rattle.objects.specs.declared.PackageKey.{PackageKey}
use Rattle.std.specs.declared.option.Option as code
use Rattle.objects.specs.Bounds.{max_packages, max_types, max_members, row_words, bounds}
use Rattle.objects.specs.Lists.{Bytes}
use Rattle.objects.specs.Table.{Table, Kind, type_key, kind_number, member_count, Numbered, plus_package, plus_type, plus_member}
use Rattle.objects.specs.Rows.{Words, package_count, type_count, member_count_of, element_count, type_word, bytes_at, package_meant, entity_of, kind_of, members_from, elements_from, table_of}
use Rattle.objects.specs.Laid.{used, Laid, Holds, last_type, member_of}
use Rattle.objects.proofs.RowLaws.{size-read, member-count-read, package-count-read}
use Rattle.rules.specs.Forms.{Line, package_line, type_line, member_line}
use Rattle.rules.specs.Load.{refused, loaded, last_kind, added, in_place, has_room, line_added}
use Rattle.line_forms.specs.Steps.{bare_kind}
use Rattle.line_forms.specs.Weights.{elements_of}
use Rattle.std.specs.Prelude.{Ok, Err}
use Rattle.objects.specs.declared.refusals.Reason.{Reason}
use Rattle.objects.specs.Refusals.{reason_number}
use Rattle.lines.specs.Adding.{verdict_meant, Grown, stands_at, member_room}
use Rattle.lines.proofs.AboveLaws.{no-types, no-tuple, stands-at, standing, room-count, room-meant}

-- ---- a line of right form, by its place and its room

module _ (text : Bytes) (rows : Words) (line : ℕ) where
  -- what is written where the line is refused is of no account
  pub refusing : {after : Words} (o : Option Line) (reason : Reason) → Laid after → line_added bounds (table_of text rows) line o ≡ refused (reason_number reason) line → Grown text rows line o after (Err reason)
  unfolding verdict_meant
  refusing o reason laid e = record { meant = e; laid = laid; few = tt }

  module _ (l : Line) where
    pub misplaced : Laid rows → in_place (table_of text rows) l ≡ false → Grown text rows line (some l) rows (Err Reason.Place)
    misplaced laid e = refusing (some l) Reason.Place laid (rw e)

    pub crowded : Laid rows → in_place (table_of text rows) l ≡ true → has_room bounds (table_of text rows) l ≡ false → Grown text rows line (some l) rows (Err Reason.Room)
    crowded laid e h = refusing (some l) Reason.Room laid (rw (e, h))

    pub adding : (after : Words) → Laid after → in_place (table_of text rows) l ≡ true → has_room bounds (table_of text rows) l ≡ true → table_of text after ≡ added (table_of text rows) line l
        → element_count after ≤ element_count rows + elements_of (some l) → Grown text rows line (some l) after (Ok tt)
    unfolding verdict_meant
    adding after laid e h t few = record { meant = rw (e, h) (ap loaded (sym t)); laid = laid; few = few }

-- the members, where the table has as many as before
pub members_kept : (text : Bytes) (rows after : Words) (table : Bytes → Table) → Holds after table → member_count (table text) ≡ member_count (table_of text rows) → member_count_of after ≡ member_count_of rows
members_kept text rows after table held e = sym (member-count-read text after) ∙ ap member_count (held.held text) ∙ e ∙ member-count-read text rows

-- ---- P

module _ (rows : Words) (at count line : ℕ) (laid : Laid rows) {n : ℕ} (p : n ≡ type_count rows) (text : Bytes) where
  abbrev path : Line
  path = package_line (bytes_at text at count)

  pub package-late : 0 < n → Grown text rows line (some path) rows (Err Reason.Place)
  package-late h = misplaced text rows line path laid (no-types text rows ∙ ap (λ k. eqb k 0) (sym p) ∙ ne_eqb n 0 (λ e. omega arith))

  module _ (z : n ≤ 0) {m : ℕ} (q : m ≡ package_count rows) where
    early : in_place (table_of text rows) path ≡ true
    early = no-types text rows ∙ ap (λ k. eqb k 0) (sym p) ∙ eq-eqb n 0 (omega arith)

    pub package-full : max_packages ≤ m → Grown text rows line (some path) rows (Err Reason.Room)
    package-full h = crowded text rows line path laid early (ap (λ k. ltb k max_packages) (package-count-read text rows ∙ sym q) ∙ le-ltb m max_packages h)

    pub package-added : m < max_packages → (after : Words) → Holds after (λ t. plus_package (table_of t rows) (bytes_at t at count)) → element_count after ≡ element_count rows
        → Grown text rows line (some path) after (Ok tt)
    unfolding plus_package added
    package-added h after held e =
        adding text rows line path after held.laid early (ap (λ k. ltb k max_packages) (package-count-read text rows ∙ sym q) ∙ lt-ltb m max_packages h) (held.held text) (omega arith)

-- ---- T

-- with no members and no elements the rows do not show in a kind
pub bare-kind : (text : Bytes) (rows : Words) (kind a b c : ℕ) → kind_of text rows kind a b c 0 0 ≡ bare_kind kind a b c
unfolding kind_of members_from elements_from
bare-kind text rows kind a b c = refl

module _ (rows : Words) (line : ℕ) (laid : Laid rows) {n : ℕ} (p : n ≡ type_count rows) (text : Bytes) (k : Kind) where
  pub type-full : max_types ≤ n → Grown text rows line (some (type_line k)) rows (Err Reason.Room)
  type-full h = crowded text rows line (type_line k) laid refl (ap (λ x. ltb x max_types) (size-read text rows ∙ sym p) ∙ le-ltb n max_types h)

  pub kind-added : n < max_types → (after : Words) → Laid after → table_of text after ≡ plus_type (table_of text rows) line k → element_count after ≤ element_count rows + elements_of (some (type_line k))
      → Grown text rows line (some (type_line k)) after (Ok tt)
  unfolding plus_type added
  kind-added h after l t few = adding text rows line (type_line k) after l refl (ap (λ x. ltb x max_types) (size-read text rows ∙ sym p) ∙ lt-ltb n max_types h) t few

pub type-added : (rows : Words) (line kind a b c : ℕ) → Laid rows → {n : ℕ} → n ≡ type_count rows → n < max_types → (after : Words)
    → Holds after (λ t. plus_type (table_of t rows) line (kind_of t rows kind a b c 0 0)) → element_count after ≡ element_count rows
    → (text : Bytes) → Grown text rows line (some (type_line (bare_kind kind a b c))) after (Ok tt)
type-added rows line kind a b c laid p h after held e text =
    kind-added rows line laid p text (bare_kind kind a b c) h after held.laid (held.held text ∙ ap (plus_type (table_of text rows) line) (bare-kind text rows kind a b c)) (omega arith)

-- ---- F and M

member-table : (text : Bytes) (rows : Words) (line name count : ℕ) (pkg : Option PackageKey) (t form tag width : ℕ)
    → plus_member (table_of text rows) line (member_of text (member_count_of rows) name count pkg t form tag width)
    ≡ added (table_of text rows) line (member_line (bytes_at text name count) pkg (type_key t) (entity_of form (bytes_at text tag width)))
unfolding plus_member added
member-table text rows line name count pkg t form tag width =
    rw (member-count-read text rows)

module _ (rows : Words) (line name count : ℕ) (pkg : code.Option PackageKey) (t form tag width : ℕ) (laid : Laid rows) {k : ℕ} (p : (text : Bytes) → k ≡ kind_number (last_kind (table_of text rows))) {s : Bool} (q : s ≡ stands_at form k) where
  abbrev member : Bytes → Line
  member text = member_line (bytes_at text name count) (package_meant pkg) (type_key t) (entity_of form (bytes_at text tag width))

  place_is : (text : Bytes) → in_place (table_of text rows) (member text) ≡ s
  place_is text = stands-at form (bytes_at text tag width) (last_kind (table_of text rows)) ∙ ap (stands_at form) (sym (p text)) ∙ sym q

  pub member-misplaced : s ≡ false → (text : Bytes) → Grown text rows line (some (member text)) rows (Err Reason.Place)
  member-misplaced e text = misplaced text rows line (member text) laid (place_is text ∙ e)

  module _ (e : s ≡ true) {u : Bool} (r : u ≡ member_room rows) where
    kind-big : (text : Bytes) → 8 ≤ kind_number (last_kind (table_of text rows))
    kind-big text = let z = standing form k (sym q ∙ e) in let w = p text in omega arith

    room-is : (text : Bytes) → has_room bounds (table_of text rows) (member text) ≡ u
    room-is text = room-meant text rows (kind-big text) ∙ sym r

    pub member-crowded : u ≡ false → (text : Bytes) → Grown text rows line (some (member text)) rows (Err Reason.Room)
    member-crowded f text = crowded text rows line (member text) laid (place_is text ∙ e) (room-is text ∙ f)

    -- what the writer asks
    pub member-ready : used rows + row_words ≤ length rows → Numbered (package_meant pkg) → u ≡ true
        → Laid rows × (member_count_of rows < max_members) × (0 < type_count rows) × (type_word rows (last_type rows) 0 ≢ 6) × (used rows + row_words ≤ length rows) × Numbered (package_meant pkg)
    member-ready w n f = (laid, room-count rows (sym r ∙ f), (no-tuple [] rows (kind-big [])).0, (no-tuple [] rows (kind-big [])).1, w, n)

    pub member-added : u ≡ true → (after : Words) → Holds after (λ x. plus_member (table_of x rows) line (member_of x (member_count_of rows) name count (package_meant pkg) t form tag width))
        → element_count after ≡ element_count rows → (text : Bytes) → Grown text rows line (some (member text)) after (Ok tt)
    member-added f after held c text =
        adding text rows line (member text) after held.laid (place_is text ∙ e) (room-is text ∙ f) (held.held text ∙ member-table text rows line name count (package_meant pkg) t form tag width) (omega arith)
