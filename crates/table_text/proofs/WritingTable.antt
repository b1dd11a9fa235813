-- What the code writes is the text of the table that the rows hold.
use mathlib.Core.Path.{◌≡◌, refl, sym, ap, ap₂, ◌∙◌}
use mathlib.Core.Bool.{Bool, true, false, cond}
use mathlib.Core.List.{List, [], ◌∷◌, ◌++◌, map, append_assoc, append-nil}
use Prim.Native.Nat.{ℕ, zero, suc, ◌+◌, ◌≤◌}
use native.Mathlib.Omega.{arith}
use lib.Dec.{eqb, ltb}
use lib.ListN.{length, length-append}
use borrow.Author.Tests.{le-ltb}
use Rattle.objects.specs.Lists.{Bytes, flat, up_to}
use Rattle.objects.specs.declared.TypeKey.{TypeKey}
use Rattle.objects.specs.Table.{Kind, type_key, obj_key, package_key, members_of}
use Rattle.objects.specs.Rows.{Words, from, package_count, type_count, member_count_of, element_count, type_word, member_at, members_from, kind_of, kind_read, path_read, table_of}
use Rattle.objects.specs.Laid.{end_of, Laid}
use Rattle.objects.specs.Types.{number_of, number_read, first_read, total_read}
use Rattle.objects.proofs.ListLaws.{cases, map-append, flat_append, flat_map, flat-In-ext}
use Rattle.objects.proofs.RowLaws.{by_kind, named-kind}
use Rattle.objects.proofs.KeyLaws.{key-eq}
use Rattle.text.specs.Bytes.{ascii}
use Rattle.rules.specs.Forms.{Line, package_line}
use Rattle.print.specs.Written.{Wrote}
use Rattle.print.proofs.WrittenLaws.{then-wrote, wrote_as}
use Rattle.edits.specs.TableText.{line_body, line_of_member, lines_of_kind, lines_of, ended, text_of}
use Rattle.edits.proofs.CarriedLaws.{kind-stays}
use Rattle.table_text.specs.Rows.{carried_number, carried_type, carried_kind, carried_member, package_text, member_text, pieces_from}
use Rattle.table_text.specs.Rows.{members_text, type_lines_text, packages_text, types_text, rows_text, Small}
use Rattle.table_text.proofs.Writing.{room-left, type-line-any}

-- ---- pieces are what a function makes of each number

pieces_more : (f : ℕ → Bytes) (first n : ℕ) → pieces_from f first (suc n) ≡ pieces_from f first n ++ f (first + n)
unfolding pieces_from
pieces_more f first zero = let e : first + 0 ≡ first = omega arith in rw e (append-nil (f first))
pieces_more f first (suc n) =
    let e : first + suc n ≡ suc first + n = omega arith in
    rw e (ap (λ r. f first ++ r) (pieces_more f (suc first) n) ∙ sym (append_assoc (f first) (pieces_from f (suc first) n) (f (suc first + n))))

pieces-flat : (f : ℕ → Bytes) (first n : ℕ) → pieces_from f first n ≡ flat f (from first n)
unfolding pieces_from
pieces-flat f first zero = refl
pieces-flat f first (suc n) =
    pieces_more f first n
    ∙ ap (λ r. r ++ f (first + n)) (pieces-flat f first n)
    ∙ sym (ap (flat f) (map-append (λ i. first + i) (up_to n) (n ∷ [])) ∙ flat_append f (from first n) ((first + n) ∷ []) ∙ ap (λ r. flat f (from first n) ++ r) (append-nil (f (first + n))))

pub pieces-up_to : (f : ℕ → Bytes) (n : ℕ) → pieces_from f 0 n ≡ flat f (up_to n)
pieces-up_to f n = pieces-flat f 0 n ∙ ap (flat f) (same n)
  where
    same : (n : ℕ) → from 0 n ≡ up_to n
    same zero = refl
    same (suc n) = let e : 0 + n ≡ n = omega arith in map-append (λ i. 0 + i) (up_to n) (n ∷ []) ∙ rw (same n, e)

-- ---- lines with their newlines

abbrev pub whole : Line → Bytes
whole l = line_body l ++ (10 ∷ [])

pub ended-whole : (ls : List Line) → ended (map line_body ls) ≡ flat whole ls
ended-whole ls = flat_map (λ l. l ++ (10 ∷ [])) line_body ls

pub flat-flat : {A : Type 0} (g : A → List Line) (l : List A) → flat whole (flat g l) ≡ flat (λ x. flat whole (g x)) l
flat-flat g [] = refl
flat-flat g (x ∷ l) = flat_append whole (g x) (flat g l) ∙ ap (λ r. flat whole (g x) ++ r) (flat-flat g l)

-- ---- the lines of a type

module _ (numbers : Words) (text : Bytes) (rows : Words) where
  members-lines : (first n : ℕ) → members_text numbers text rows first n ≡ flat whole (map line_of_member (map (carried_member numbers) (members_from text rows first n)))
  unfolding members_from member_text
  members-lines first n =
      pieces-flat (λ i. member_text numbers text rows (obj_key i)) first n
      ∙ sym (flat_map whole line_of_member (map (carried_member numbers) (members_from text rows first n)) ∙ flat_map (λ m. whole (line_of_member m)) (carried_member numbers) (members_from text rows first n)
      ∙ flat_map (λ m. whole (line_of_member (carried_member numbers m))) (λ i. member_at text rows (obj_key i)) (from first n))

  members-of : (a b c first count k : ℕ)
      → members_of (carried_kind numbers (kind_of text rows k a b c first count)) ≡ cond (ltb (number_of k) 8) [] (map (carried_member numbers) (members_from text rows first count))
  unfolding kind_of number_of
  members-of a b c first count =
      by_kind _ refl refl refl refl refl refl refl refl refl refl (λ k h. ap (λ K. members_of (carried_kind numbers K)) (named-kind text rows a b c first count k h) ∙ rw (le-ltb k 10 h))

  -- WHAT IS WRITTEN FOR A TYPE: its lines, with references carried
  pub type-lines-text : (t : TypeKey) → type_lines_text numbers text rows t ≡ flat whole (lines_of_kind (carried_kind numbers (kind_read text rows t)))
  unfolding type_lines_text kind_read number_read first_read total_read
  type-lines-text t =
      ap₂ (λ a b. a ++ b) (type-line-any numbers rows t text)
      (tail (ltb (number_read rows t) 8) (first_read rows t) (total_read rows t) ∙ sym (ap (λ ms. flat whole (map line_of_member ms)) (members-of _ _ _ _ _ _)))
    where
      tail : (b : Bool) (first n : ℕ) → cond b [] (members_text numbers text rows first n) ≡ flat whole (map line_of_member (cond b [] (map (carried_member numbers) (members_from text rows first n))))
      tail true first n = refl
      tail false first n = members-lines first n

-- no numbers change nothing
plain-number : (n : ℕ) → carried_number [] n ≡ n
unfolding carried_number
plain-number n = rw (le-ltb n 0 (omega arith))

plain_type : (t : TypeKey) → carried_type [] t ≡ t
plain_type t = key-eq (carried_type [] t) t (plain-number t.0)

plain-kind : (k : Kind) → carried_kind [] k ≡ k
plain-kind k = kind-stays (carried_type []) k (λ e i. plain_type e) (λ m i. plain_type m.type)

module _ (text : Bytes) (rows : Words) where
  plain-lines-text : (t : TypeKey) → type_lines_text [] text rows t ≡ flat whole (lines_of_kind (kind_read text rows t))
  plain-lines-text t = type-lines-text [] text rows t ∙ ap (λ k. flat whole (lines_of_kind k)) (plain-kind (kind_read text rows t))

  -- all P lines
  pub packages-lines : packages_text text rows ≡ flat whole (map package_line (table_of text rows).packages)
  unfolding table_of package_text
  packages-lines =
      pieces-up_to (λ i. package_text text rows (package_key i)) (package_count rows)
      ∙ sym (flat_map whole package_line (map (λ p. path_read text rows (package_key p)) (up_to (package_count rows)))
      ∙ flat_map (λ p. whole (package_line p)) (λ p. path_read text rows (package_key p)) (up_to (package_count rows)))

  -- WHAT THE CODE WRITES IS THE TEXT OF THE TABLE
  rows-text : rows_text text rows ≡ text_of (table_of text rows)
  unfolding rows_text text_of lines_of table_of package_text
  rows-text =
      ap (λ r. ascii "typetable\t1\n" ++ r)
      (ap₂ (λ a b. a ++ b) packages-lines types
      ∙ sym (ended-whole (lines_of (table_of text rows)) ∙ flat_append whole (map package_line (table_of text rows).packages) (flat lines_of_kind (table_of text rows).types)))
    where
      types : types_text [] text rows ≡ flat whole (flat lines_of_kind (map (λ t. kind_read text rows (type_key t)) (up_to (type_count rows))))
      types =
          pieces-up_to (λ i. type_lines_text [] text rows (type_key i)) (type_count rows)
          ∙ flat-In-ext (λ i. type_lines_text [] text rows (type_key i)) (λ i. flat whole (lines_of_kind (kind_read text rows (type_key i)))) (up_to (type_count rows)) (λ i j. plain-lines-text (type_key i))
          ∙ sym (flat-flat lines_of_kind (map (λ t. kind_read text rows (type_key t)) (up_to (type_count rows)))
          ∙ flat_map (λ k. flat whole (lines_of_kind k)) (λ t. kind_read text rows (type_key t)) (up_to (type_count rows)))

-- ---- its three parts, one after the other

module _ (text : Bytes) (rows : Words) where
  parts_is : text_of (table_of text rows) ≡ ascii "typetable\t1\n" ++ (packages_text text rows ++ types_text [] text rows)
  unfolding rows_text
  parts_is = sym (rows-text text rows)

  module _ (o : Bytes) (at : ℕ) (h : at + length (text_of (table_of text rows)) ≤ length o) where
    pub header-room : at + 12 ≤ length o
    header-room = omega (arith, h, ap length parts_is, length-append (ascii "typetable\t1\n") (packages_text text rows ++ types_text [] text rows))

    module _ {o₁ : Bytes} {i : ℕ} (d : Wrote o at (ascii "typetable\t1\n") o₁ i) where
      both-room : i + length (packages_text text rows ++ types_text [] text rows) ≤ length o₁
      both-room = room-left (packages_text text rows ++ types_text [] text rows) d (rw parts_is at h)

      pub packages-room : i + length (packages_text text rows) ≤ length o₁
      packages-room = omega (arith, both-room, length-append (packages_text text rows) (types_text [] text rows))

      pub types-room : {o₂ : Bytes} {j : ℕ} → Wrote o₁ i (packages_text text rows) o₂ j → j + length (types_text [] text rows) ≤ length o₂
      types-room e = room-left (types_text [] text rows) e both-room

  pub table-wrote : {o o₁ o₂ o₃ : Bytes} {at i j r : ℕ} → Wrote o at (ascii "typetable\t1\n") o₁ i → Wrote o₁ i (packages_text text rows) o₂ j → Wrote o₂ j (types_text [] text rows) o₃ r
      → Wrote o at (text_of (table_of text rows)) o₃ r
  table-wrote d e f = wrote_as parts_is refl (then-wrote d (then-wrote e f))

-- rows in order have small numbers
pub laid-small : (rows : Words) → Laid rows → Small rows
unfolding first_read total_read end_of
laid-small rows l t h =
    cases (eqb (type_word rows t 0) 6)
    (λ e. let w : type_word rows t 4 + type_word rows t 5 ≤ element_count rows = rw e at (l.within t h) in omega (arith, w, l.elements))
    (λ e. let w : type_word rows t 4 + type_word rows t 5 ≤ member_count_of rows = rw e at (l.within t h) in omega (arith, w, l.members))
