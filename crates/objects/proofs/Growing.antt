-- Rows that keep what is in use and have one package, type, member or element more hold the table with one more, and stay in order.
use mathlib.Core.Path.{◌≡◌, refl, sym, ap, ap₂, ◌∙◌}
use mathlib.Core.List.{[], ◌∷◌, ◌++◌, map}
use mathlib.Core.Logic.{◌≢◌}
use Prim.Native.Nat.{ℕ, suc, ◌+◌, ◌*◌, ◌<◌, ◌≤◌}
use native.Mathlib.Nat.{le_refl}
use native.Mathlib.Omega.{arith}
use lib.ListN.{length, get_or}
use borrow.Author.Tests.{ne_eqb}
use Rattle.objects.specs.declared.TypeKey.{TypeKey}
use Rattle.objects.specs.Bounds.{max_types, max_packages, max_members, max_elements, row_words, members_at}
use Rattle.objects.specs.Lists.{Bytes, up_to, on_last}
use Rattle.objects.specs.Table.{Member, Kind, Struct, Iface, Named, Tuple, type_key, obj_key, package_key, with_member, plus_package, plus_type, plus_member}
use Rattle.objects.specs.Rows.{Words, package_count, type_count, member_count_of, element_count, type_word, member_word, package_word, element_at, bytes_at, pkg_of, member_at, members_from, elements_from, kind_of, kind_read, path_read, table_of}
use Rattle.objects.specs.Laid.{end_of, types_used, used, Laid, Holds, member_of, element_added, plus_element}
use Rattle.objects.proofs.Numbers.{each_more, each-grown, each-on_last}
use Rattle.objects.proofs.RowLaws.{by_kind, named-kind, members-more, elements-more}
use Rattle.objects.proofs.Stores.{Kept}
use Rattle.objects.proofs.Keeping.{same-table, kept-type, kept-members, kept-elements, kept-kinds, kept-paths, kept-lines, kept-member-lines, kept-within, laid-last}

-- what the table lists of packages and of types
abbrev paths : Bytes → Words → ℕ → Bytes
paths text rows p = path_read text rows (package_key p)

abbrev kinds : Bytes → Words → ℕ → Kind
kinds text rows t = kind_read text rows (type_key t)

abbrev lines : Words → ℕ → ℕ
lines rows t = type_word rows (type_key t) 6

abbrev member_lines : Words → ℕ → ℕ
member_lines rows m = member_word rows (obj_key m) 7

pub ends_same : (rows after : Words) (kind : ℕ) → member_count_of after ≡ member_count_of rows → element_count after ≡ element_count rows → end_of after kind ≡ end_of rows kind
unfolding end_of
ends_same rows after kind m e = rw (m, e)

-- ---- P

module _ (rows after : Words) (place len : ℕ) (laid : Laid rows) (room : package_count rows < max_packages) (k : Kept (type_count rows) rows after)
    (p-is : package_count after ≡ suc (package_count rows))
    (t-is : type_count after ≡ type_count rows)
    (m-is : member_count_of after ≡ member_count_of rows)
    (e-is : element_count after ≡ element_count rows)
    (word : (j : ℕ) → j < 2 → package_word after (package_key (package_count rows)) j ≡ get_or (place ∷ len ∷ []) j 0) where
  package-laid : Laid after
  package-laid = record {
    short = rw (k.long, t-is) laid.short;
    long = rw (k.long, m-is, e-is) laid.long;
    packages = rw p-is room;
    types = rw t-is laid.types;
    members = rw m-is laid.members;
    elements = rw e-is laid.elements;
    within = λ t h. kept-within k laid (le_refl _) (omega arith) (omega arith) t (omega arith);
    last = λ t e.
        rw (kept-type k t 0 (omega arith) (omega arith), kept-type k t 4 (omega arith) (omega arith), kept-type k t 5 (omega arith) (omega arith))
        (laid.last t (e ∙ t-is) ∙ sym (ends_same rows after _ m-is e-is));
  }

  package-held : (text : Bytes) → table_of text after ≡ plus_package (table_of text rows) (bytes_at text place len)
  unfolding table_of plus_package path_read
  package-held text =
      same-table
      (rw p-is (each-grown (paths text after) (paths text rows) _ (kept-paths k text) (ap₂ (bytes_at text) (word 0 (omega arith)) (word 1 (omega arith)))))
      (rw t-is (kept-kinds k text laid (le_refl _)))
      (rw t-is (kept-lines k))
      (rw m-is (kept-member-lines k))

  pub package-grown : Holds after (λ text. plus_package (table_of text rows) (bytes_at text place len))
  package-grown = record { laid = package-laid; held = package-held }

-- ---- T

module _ (rows after : Words) (kind a b c line : ℕ) (laid : Laid rows) (room : type_count rows < max_types) (space : types_used rows + row_words ≤ members_at (length rows)) (k : Kept (type_count rows) rows after)
    (p-is : package_count after ≡ package_count rows)
    (t-is : type_count after ≡ suc (type_count rows))
    (m-is : member_count_of after ≡ member_count_of rows)
    (e-is : element_count after ≡ element_count rows)
    (word : (j : ℕ) → j < 8 → type_word after (type_key (type_count rows)) j ≡ get_or (kind ∷ a ∷ b ∷ c ∷ end_of rows kind ∷ 0 ∷ line ∷ 0 ∷ []) j 0) where
  type-laid : Laid after
  type-laid =
      laid-last k laid (le_refl _) (omega arith) (omega arith) t-is
      (rw (word 0 (omega arith), word 4 (omega arith), word 5 (omega arith)) (let e = ends_same rows after kind m-is e-is in omega arith))
      (rw (k.long, t-is) (omega arith)) (rw (k.long, m-is, e-is) laid.long) (rw p-is laid.packages) (rw t-is room) (rw m-is laid.members) (rw e-is laid.elements)

  type-new : (text : Bytes) → kind_read text after (type_key (type_count rows)) ≡ kind_of text rows kind a b c 0 0
  unfolding kind_read kind_of members_from elements_from
  type-new text = rw (word 0 (omega arith), word 1 (omega arith), word 2 (omega arith), word 3 (omega arith), word 4 (omega arith), word 5 (omega arith))

  type-held : (text : Bytes) → table_of text after ≡ plus_type (table_of text rows) line (kind_of text rows kind a b c 0 0)
  unfolding table_of plus_type
  type-held text =
      same-table
      (rw p-is (kept-paths k text))
      (rw t-is (each-grown (kinds text after) (kinds text rows) _ (kept-kinds k text laid (le_refl _)) (type-new text)))
      (rw t-is (each-grown (lines after) (lines rows) _ (kept-lines k) (word 6 (omega arith))))
      (rw m-is (kept-member-lines k))

  pub type-grown : Holds after (λ text. plus_type (table_of text rows) line (kind_of text rows kind a b c 0 0))
  type-grown = record { laid = type-laid; held = type-held }

-- ---- what stands under the last type

-- one member more, of a kind that has members or shows none
member-kind : (text : Bytes) (rows after : Words) (a b c first n n' : ℕ) (m : Member) → members_from text after first n' ≡ members_from text rows first n ++ (m ∷ [])
    → (kind : ℕ) → kind ≢ 6 → kind_of text after kind a b c first n' ≡ with_member m (kind_of text rows kind a b c first n)
unfolding kind_of
member-kind text rows after a b c first n n' m e =
    by_kind _ (λ _. refl) (λ _. refl) (λ _. refl) (λ _. refl) (λ _. refl) (λ _. refl) (λ ne. absurd (ne refl)) (λ _. refl) (λ _. ap Struct e) (λ _. ap Iface e)
    (λ k h _.
    named-kind text after a b c first n' k h ∙ ap (Named (type_key a)) e ∙ sym (ap (with_member m) (named-kind text rows a b c first n k h)))

element-kind : (text : Bytes) (rows after : Words) (a b c first n n' : ℕ) (t : TypeKey) → elements_from text after first n' ≡ elements_from text rows first n ++ (t ∷ [])
    → (kind : ℕ) → kind ≡ 6 → kind_of text after kind a b c first n' ≡ element_added t (kind_of text rows kind a b c first n)
unfolding kind_of
element-kind text rows after a b c first n n' t e kind q = rw q (ap Tuple e)

module _ (rows after : Words) (n : ℕ) (laid : Laid rows) (n-is : type_count rows ≡ suc n) (k : Kept n rows after)
    (p-is : package_count after ≡ package_count rows)
    (t-is : type_count after ≡ type_count rows)
    (word : (j : ℕ) → j < 8 → j ≢ 5 → type_word after (type_key n) j ≡ type_word rows (type_key n) j)
    (count-is : type_word after (type_key n) 5 ≡ suc (type_word rows (type_key n) 5)) where
  last-types : (text : Bytes) (f : Kind → Kind) → kind_read text after (type_key n) ≡ f (kind_read text rows (type_key n))
      → map (λ t. kind_read text after (type_key t)) (up_to (type_count after)) ≡ on_last f (map (λ t. kind_read text rows (type_key t)) (up_to (type_count rows)))
  last-types text f e = rw (t-is, n-is) (each-on_last (kinds text after) (kinds text rows) f n (kept-kinds k text laid (omega arith)) e)

  last-lines : map (λ t. type_word after (type_key t) 6) (up_to (type_count after)) ≡ map (λ t. type_word rows (type_key t) 6) (up_to (type_count rows))
  last-lines =
      rw (t-is, n-is)
      (each-grown (lines after) (lines rows) n (kept-lines k) (word 6 (omega arith) (omega arith)) ∙ sym (each_more (lines rows) n))

  last-kind : (text : Bytes) → kind_read text after (type_key n)
      ≡ kind_of text after (type_word rows (type_key n) 0) (type_word rows (type_key n) 1) (type_word rows (type_key n) 2) (type_word rows (type_key n) 3)
      (type_word rows (type_key n) 4) (suc (type_word rows (type_key n) 5))
  unfolding kind_read
  last-kind text =
      rw (
        word 0 (omega arith) (omega arith),
        word 1 (omega arith) (omega arith),
        word 2 (omega arith) (omega arith),
        word 3 (omega arith) (omega arith),
        word 4 (omega arith) (omega arith),
        count-is,
      )

  last-laid : members_at (length rows) + row_words * member_count_of after + element_count after ≤ length rows → member_count_of rows ≤ member_count_of after → element_count rows ≤ element_count after → member_count_of after ≤ max_members → element_count after ≤ max_elements
      → suc (end_of rows (type_word rows (type_key n) 0)) ≡ end_of after (type_word rows (type_key n) 0) → Laid after
  last-laid long m e m-room e-room ends =
      let was = laid.last (type_key n) (sym n-is) in
      laid-last k laid (omega arith) m e (t-is ∙ n-is)
      (rw (word 0 (omega arith) (omega arith), word 4 (omega arith) (omega arith), count-is) (omega arith))
      (rw (k.long, t-is) laid.short) (rw k.long long) (rw p-is laid.packages) (rw t-is laid.types) m-room e-room

  -- ---- F and M

  module _ (name len pkg type form tag tag_len line : ℕ) (room : member_count_of rows < max_members) (kind : type_word rows (type_key n) 0 ≢ 6) (space : used rows + row_words ≤ length rows)
      (m-is : member_count_of after ≡ suc (member_count_of rows))
      (e-is : element_count after ≡ element_count rows)
      (row : (j : ℕ) → j < 8 → member_word after (obj_key (member_count_of rows)) j ≡ get_or (name ∷ len ∷ pkg ∷ type ∷ form ∷ tag ∷ tag_len ∷ line ∷ []) j 0) where
    member-end : (words : Words) → end_of words (type_word rows (type_key n) 0) ≡ member_count_of words
    unfolding end_of
    member-end words = rw (ne_eqb (type_word rows (type_key n) 0) 6 kind)

    member-new : (text : Bytes) → member_at text after (obj_key (member_count_of rows)) ≡ member_of text (member_count_of rows) name len (pkg_of pkg) type form tag tag_len
    unfolding member_at
    member-new text =
        rw
        (row 0 (omega arith), row 1 (omega arith), row 2 (omega arith), row 3 (omega arith), row 4 (omega arith), row 5 (omega arith), row 6 (omega arith))

    member-list : (text : Bytes) → members_from text after (type_word rows (type_key n) 4) (suc (type_word rows (type_key n) 5))
        ≡ members_from text rows (type_word rows (type_key n) 4) (type_word rows (type_key n) 5) ++ (member_of text (member_count_of rows) name len (pkg_of pkg) type form tag tag_len ∷ [])
    member-list text =
        let ends : type_word rows (type_key n) 4 + type_word rows (type_key n) 5 ≡ member_count_of rows = laid.last (type_key n) (sym n-is) ∙ member-end rows in
        members-more text after _ _ ∙ rw (ends, kept-members k text (type_word rows (type_key n) 4) (type_word rows (type_key n) 5) (omega arith), member-new text)

    member-held : (text : Bytes) → table_of text after ≡ plus_member (table_of text rows) line (member_of text (member_count_of rows) name len (pkg_of pkg) type form tag tag_len)
    unfolding table_of plus_member kind_read
    member-held text =
        same-table
        (rw p-is (kept-paths k text))
        (last-types text _ (last-kind text ∙ member-kind text rows after _ _ _ _ _ _ _ (member-list text) _ kind))
        last-lines
        (rw m-is (each-grown (member_lines after) (member_lines rows) _ (kept-member-lines k) (row 7 (omega arith))))

    pub member-grown : Holds after (λ text. plus_member (table_of text rows) line (member_of text (member_count_of rows) name len (pkg_of pkg) type form tag tag_len))
    member-grown = record {
      laid = last-laid (omega arith) (omega arith) (omega arith) (rw m-is room) (rw e-is laid.elements) (ap suc (member-end rows) ∙ sym (member-end after ∙ m-is));
      held = member-held;
    }

  -- ---- an element of a tuple

  module _ (t : TypeKey) (room : element_count rows < max_elements) (kind : type_word rows (type_key n) 0 ≡ 6) (space : used rows < length rows)
      (m-is : member_count_of after ≡ member_count_of rows)
      (e-is : element_count after ≡ suc (element_count rows))
      (new : element_at after (element_count rows) ≡ t) where
    element-end : (words : Words) → end_of words (type_word rows (type_key n) 0) ≡ element_count words
    unfolding end_of
    element-end words = rw kind

    element-list : (text : Bytes) → elements_from text after (type_word rows (type_key n) 4) (suc (type_word rows (type_key n) 5))
        ≡ elements_from text rows (type_word rows (type_key n) 4) (type_word rows (type_key n) 5) ++ (t ∷ [])
    element-list text =
        let ends : type_word rows (type_key n) 4 + type_word rows (type_key n) 5 ≡ element_count rows = laid.last (type_key n) (sym n-is) ∙ element-end rows in
        elements-more text after _ _ ∙ rw (ends, kept-elements k text (type_word rows (type_key n) 4) (type_word rows (type_key n) 5) (omega arith), new)

    element-held : (text : Bytes) → table_of text after ≡ plus_element (table_of text rows) t
    unfolding table_of plus_element kind_read
    element-held text =
        same-table
        (rw p-is (kept-paths k text))
        (last-types text _ (last-kind text ∙ element-kind text rows after _ _ _ _ _ _ _ (element-list text) _ kind))
        last-lines
        (rw m-is (kept-member-lines k))

    pub element-grown : Holds after (λ text. plus_element (table_of text rows) t)
    element-grown = record {
      laid = last-laid (omega arith) (omega arith) (omega arith) (rw m-is laid.members) (rw e-is room) (ap suc (element-end rows) ∙ sym (element-end after ∙ e-is));
      held = element-held;
    }
