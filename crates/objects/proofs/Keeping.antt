-- Rows that keep the words in use (`Kept`) keep what the table says of them, and stay in order (`Laid`) with one type more or a longer last type.
use mathlib.Core.Path.{◌≡◌, sym, ap, subst}
use mathlib.Core.List.{List, map}
use Prim.Native.Nat.{ℕ, suc, ◌+◌, ◌<◌, ◌≤◌}
use native.Mathlib.Nat.{eq-or-lt_of_le, le_of_suc-le-suc}
use native.Mathlib.Omega.{arith}
use lib.Dec.{eqb}
use lib.ListN.{length}
use borrow.Author.Tests.{eqb-true}
use Rattle.objects.specs.declared.TypeKey.{TypeKey}
use Rattle.objects.specs.declared.ObjKey.{ObjKey}
use Rattle.objects.specs.declared.PackageKey.{PackageKey}
use Rattle.objects.specs.Bounds.{max_types, max_packages, max_members, max_elements, members_at}
use Rattle.objects.specs.Lists.{Bytes, up_to}
use Rattle.objects.specs.Table.{Table, Kind, Tuple, type_key, obj_key, package_key, no_table, with_packages, with_types, with_type_lines, with_member_lines}
use Rattle.objects.specs.Rows.{Words, package_count, type_count, member_count_of, element_count, type_word, member_word, package_word, element_at, member_at, members_from, elements_from, kind_of, kind_read, path_read}
use Rattle.objects.specs.Laid.{end_of, types_used, used, Laid}
use Rattle.objects.proofs.ListLaws.{cases, either}
use Rattle.objects.proofs.Numbers.{each_same, run-same}
use Rattle.objects.proofs.Stores.{Kept}

pub same-table : {p p' : List Bytes} {k k' : List Kind} {l l' m m' : List ℕ} → p ≡ p' → k ≡ k' → l ≡ l' → m ≡ m'
    → ◌≡◌ {A = Table} (with_packages p (with_types k (with_type_lines l (with_member_lines m no_table)))) (with_packages p' (with_types k' (with_type_lines l' (with_member_lines m' no_table))))
same-table e f g h = rw (e, f, g, h)

-- ---- rows, members and kinds

pub same-member : (text : Bytes) (rows after : Words) (m : ObjKey) → ((j : ℕ) → j < 8 → member_word after m j ≡ member_word rows m j) → member_at text after m ≡ member_at text rows m
unfolding member_at
same-member text rows after m same =
    rw (same 0 (omega arith), same 1 (omega arith), same 2 (omega arith), same 3 (omega arith), same 4 (omega arith), same 5 (omega arith), same 6 (omega arith))

module _ {bound : ℕ} {rows after : Words} (k : Kept bound rows after) where
  pub kept-type : (t : TypeKey) (j : ℕ) → t.0 < bound → j < 8 → type_word after t j ≡ type_word rows t j
  unfolding type_word
  kept-type t j h g = k.types _ (omega arith) (omega arith)

  pub kept-member : (m : ObjKey) (j : ℕ) → m.0 < member_count_of rows → j < 8 → member_word after m j ≡ member_word rows m j
  unfolding member_word
  kept-member m j h g = rw k.long (k.members _ (omega arith) (omega arith))

  pub kept-package : (p : PackageKey) (j : ℕ) → p.0 < package_count rows → j < 2 → package_word after p j ≡ package_word rows p j
  unfolding package_word
  kept-package p j h g = k.packages _ (omega arith) (omega arith)

  pub kept-element : (i : ℕ) → i < element_count rows → element_at after i ≡ element_at rows i
  unfolding element_at
  kept-element i h = rw k.long (ap type_key (k.elements _ (omega arith)))

  module _ (text : Bytes) where
    pub kept-member_at : (m : ObjKey) → m.0 < member_count_of rows → member_at text after m ≡ member_at text rows m
    kept-member_at m h = same-member text rows after m (λ j l. kept-member m j h l)

    pub kept-members : (first n : ℕ) → first + n ≤ member_count_of rows → members_from text after first n ≡ members_from text rows first n
    unfolding members_from
    kept-members first n h = run-same _ first _ n (λ i l g. kept-member_at (obj_key i) (omega arith))

    pub kept-elements : (first n : ℕ) → first + n ≤ element_count rows → elements_from text after first n ≡ elements_from text rows first n
    unfolding elements_from
    kept-elements first n h = run-same _ first _ n (λ i l g. kept-element i (omega arith))

    -- a kind whose members or elements are in use
    pub kept-words : (kind a b c first n : ℕ) → first + n ≤ end_of rows kind → kind_of text after kind a b c first n ≡ kind_of text rows kind a b c first n
    unfolding kind_of end_of
    kept-words kind a b c first n h =
        cases (eqb kind 6)
        (λ e. subst (λ x. kind_of text after x a b c first n ≡ kind_of text rows x a b c first n) (sym (eqb-true kind 6 e)) (ap Tuple (kept-elements first n (rw e at h))))
        (λ e. rw (e, kept-members first n (rw e at h)))

    module _ (laid : Laid rows) (room : bound ≤ type_count rows) where
      pub kept-kind : (t : TypeKey) → t.0 < bound → kind_read text after t ≡ kind_read text rows t
      unfolding kind_read
      kept-kind t h =
          rw (
            kept-type t 0 h (omega arith),
            kept-type t 1 h (omega arith),
            kept-type t 2 h (omega arith),
            kept-type t 3 h (omega arith),
            kept-type t 4 h (omega arith),
            kept-type t 5 h (omega arith),
          )
          (kept-words _ _ _ _ _ _ (laid.within t (omega arith)))

      pub kept-kinds : map (λ t. kind_read text after (type_key t)) (up_to bound) ≡ map (λ t. kind_read text rows (type_key t)) (up_to bound)
      kept-kinds = each_same _ _ bound (λ t h. kept-kind (type_key t) h)

    pub kept-paths : map (λ p. path_read text after (package_key p)) (up_to (package_count rows)) ≡ map (λ p. path_read text rows (package_key p)) (up_to (package_count rows))
    unfolding path_read
    kept-paths = each_same _ _ (package_count rows) (λ p h. rw (kept-package (package_key p) 0 h (omega arith), kept-package (package_key p) 1 h (omega arith)))

  pub kept-lines : map (λ t. type_word after (type_key t) 6) (up_to bound) ≡ map (λ t. type_word rows (type_key t) 6) (up_to bound)
  kept-lines = each_same _ _ bound (λ t h. kept-type (type_key t) 6 h (omega arith))

  pub kept-member-lines : map (λ m. member_word after (obj_key m) 7) (up_to (member_count_of rows)) ≡ map (λ m. member_word rows (obj_key m) 7) (up_to (member_count_of rows))
  kept-member-lines = each_same _ _ (member_count_of rows) (λ m h. kept-member (obj_key m) 7 h (omega arith))

-- ---- in order

-- where members end grows with the counts
grows : (rows after : Words) (kind n : ℕ) → member_count_of rows ≤ member_count_of after → element_count rows ≤ element_count after → n ≤ end_of rows kind → n ≤ end_of after kind
unfolding end_of
grows rows after kind n m e h = cases (eqb kind 6) (λ q. rw q (let g = rw q at h in omega arith)) (λ q. rw q (let g = rw q at h in omega arith))

module _ {bound : ℕ} {rows after : Words} (k : Kept bound rows after) (laid : Laid rows) (room : bound ≤ type_count rows)
    (more-members : member_count_of rows ≤ member_count_of after) (more-elements : element_count rows ≤ element_count after) where
  pub kept-within : (t : TypeKey) → t.0 < bound → type_word after t 4 + type_word after t 5 ≤ end_of after (type_word after t 0)
  kept-within t h =
      rw (kept-type k t 0 h (omega arith), kept-type k t 4 h (omega arith), kept-type k t 5 h (omega arith))
      (grows rows after (type_word rows t 0) _ more-members more-elements (laid.within t (omega arith)))

  -- with one type behind those that are kept, whose members end where all end
  pub laid-last : type_count after ≡ suc bound
      → type_word after (type_key bound) 4 + type_word after (type_key bound) 5 ≡ end_of after (type_word after (type_key bound) 0)
      → types_used after ≤ members_at (length after) → used after ≤ length after → package_count after ≤ max_packages → type_count after ≤ max_types → member_count_of after ≤ max_members → element_count after ≤ max_elements
      → Laid after
  laid-last n-is ends short long packages types members elements = record {
    short = short;
    long = long;
    packages = packages;
    types = types;
    members = members;
    elements = elements;
    within = λ t h. either (eq-or-lt_of_le (le_of_suc-le-suc (rw n-is at h))) (λ e. let q = ends_at t e in omega arith) (kept-within t);
    last = λ t e. ends_at t (omega arith);
  }
    where
      ends_at : (t : TypeKey) → t.0 ≡ bound → type_word after t 4 + type_word after t 5 ≡ end_of after (type_word after t 0)
      ends_at t e = subst (λ u. type_word after u 4 + type_word after u 5 ≡ end_of after (type_word after u 0)) (sym (ap type_key e)) ends
