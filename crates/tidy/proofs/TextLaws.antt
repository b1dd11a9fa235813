-- What the writer writes is the text of the tidied table.
use mathlib.Core.Path.{◌≡◌, refl, sym, ap, ap₂, ◌∙◌}
use mathlib.Core.Bool.{Bool, cond}
use mathlib.Core.List.{List, [], ◌∷◌, ◌++◌, map}
use Prim.Native.Nat.{ℕ, ◌+◌, ◌≤◌, ◌<◌}
use native.Mathlib.Omega.{arith}
use lib.ListN.{length, get_or, length-append}
use borrow.Author.Tests.{eq-eqb, ne_eqb}
use Rattle.objects.specs.Lists.{Bytes, keep, flat, up_to}
use Rattle.objects.specs.declared.TypeKey.{TypeKey}
use Rattle.objects.specs.declared.PackageKey.{PackageKey}
use Rattle.objects.specs.Table.{Table, size, type_key, same_type, kind_at}
use Rattle.objects.specs.Rows.{Words, type_count, kind_read, table_of}
use Rattle.objects.proofs.ListLaws.{cases, flat_append, flat_map, flat-In-ext}
use Rattle.objects.proofs.Numbers.{up_to-below}
use Rattle.objects.proofs.KeyLaws.{key-eq}
use Rattle.objects.proofs.RowLaws.{size-read, kind-read}
use Rattle.text.specs.Bytes.{ascii}
use Rattle.rules.specs.Library.{Library}
use Rattle.rules.specs.Forms.{package_line}
use Rattle.rules.proofs.Sounds.{library-sound}
use Rattle.print.specs.Written.{Wrote}
use Rattle.print.proofs.WrittenLaws.{then-wrote, wrote_as, wrote_nothing}
use Rattle.edits.specs.Tidy.{least, remaining, tidy_type, tidied}
use Rattle.edits.proofs.CarriedLaws.{kind-agree}
use Rattle.carry.proofs.TidyMaps.{tidied_lines}
use Rattle.edits.specs.TableText.{lines_of_kind, lines_of, text_of}
use Rattle.table_text.specs.Rows.{carried_type, carried_kind, packages_text, type_lines_text}
use Rattle.table_text.proofs.Writing.{carried-within, room-left}
use Rattle.table_text.proofs.WritingTable.{whole, ended-whole, flat-flat, pieces-up_to, packages-lines, type-lines-text}
use Rattle.twins.specs.Labels.{Twinned}
use Rattle.tidy.specs.Numbers.{Renumbered}
use Rattle.tidy.specs.Text.{own_text, remaining_text, tidied_rows}
use Rattle.table_text.proofs.AssembledText.{assembled-lines}

-- nothing of those that are left out
flat-kept : {A B : Type 0} (p : A → Bool) (g : A → List B) (l : List A) → flat (λ x. cond (p x) (g x) []) l ≡ flat g (keep p l)
flat-kept p g [] = refl
flat-kept p g (x ∷ l) = cases (p x) (λ e. rw e (ap (λ r. g x ++ r) (flat-kept p g l))) (λ e. rw e (flat-kept p g l))

module _ (text : Bytes) (rows : Words) (lib : Library text rows) (twins numbers : Words) (w : Twinned text rows twins) (n : Renumbered text rows numbers) (long : type_count rows ≤ length numbers) where
  abbrev T : Table
  T = table_of text rows

  -- the lent numbers are those of `tidy_type`
  number_is : (e : TypeKey) → e.0 < size T → carried_type numbers e ≡ tidy_type T e
  number_is e h =
      let z = size-read text rows in
      let i : e.0 < type_count rows = omega arith in
      key-eq (carried_type numbers e) (tidy_type T e) (sym (carried-within numbers e.0 (omega arith)) ∙ n e.0 i)

  kind-is : (t : ℕ) → t < type_count rows → carried_kind numbers (kind_read text rows (type_key t)) ≡ tidied_lines T (type_key t)
  kind-is t h =
      ap (carried_kind numbers) (sym (kind-read text rows (type_key t) h))
      ∙ kind-agree (carried_type numbers) (tidy_type T) (λ (p : PackageKey). p) (kind_at T (type_key t))
      (λ e i. number_is e ((library-sound lib).refers (type_key t) e i)) (λ m i. number_is m.type ((library-sound lib).typed (type_key t) m i))

  abbrev own : TypeKey → Bool
  own t = same_type (least T t) t

  abbrev lines : TypeKey → Bytes
  lines t = flat whole (lines_of_kind (tidied_lines T t))

  own-text : (t : ℕ) → t < type_count rows → own_text text rows twins numbers (type_key t) ≡ cond (own (type_key t)) (lines (type_key t)) []
  unfolding own_text
  own-text t h = rw (w t h) (ap (λ s. cond (own (type_key t)) s []) (type-lines-text numbers text rows (type_key t) ∙ ap (λ k. flat whole (lines_of_kind k)) (kind-is t h)))

  remaining-text : remaining_text text rows twins numbers ≡ flat whole (flat lines_of_kind (map (tidied_lines T) (remaining T)))
  unfolding remaining
  remaining-text =
      pieces-up_to (λ i. own_text text rows twins numbers (type_key i)) (type_count rows)
      ∙ flat-In-ext (λ i. own_text text rows twins numbers (type_key i)) (λ i. cond (own (type_key i)) (lines (type_key i)) []) (up_to (type_count rows))
      (λ i j. own-text i (up_to-below (type_count rows) i j))
      ∙ sym (flat_map (λ t. cond (own t) (lines t) []) type_key (up_to (type_count rows)))
      ∙ flat-kept own lines (map type_key (up_to (type_count rows)))
      ∙ ap (λ m. flat lines (keep own (map type_key (up_to m)))) (sym (size-read text rows))
      ∙ sym (flat-flat lines_of_kind (map (tidied_lines T) (remaining T)) ∙ flat_map (λ k. flat whole (lines_of_kind k)) (tidied_lines T) (remaining T))

  -- WHAT THE WRITER WRITES IS THE TEXT OF THE TIDIED TABLE
  tidied-text : tidied_rows text rows twins numbers ≡ text_of (tidied T)
  unfolding tidied_rows text_of tidied
  tidied-text =
      ap (λ r. ascii "typetable\t1\n" ++ r)
      (ap₂ (λ a b. a ++ b) (packages-lines text rows) remaining-text
      ∙ sym (ended-whole (lines_of (tidied T)) ∙ ap (flat whole) (assembled-lines T.packages (map (tidied_lines T) (remaining T)))
      ∙ flat_append whole (map package_line T.packages) (flat lines_of_kind (map (tidied_lines T) (remaining T)))))

  -- ---- its three parts, one after the other

  parts_is : text_of (tidied T) ≡ ascii "typetable\t1\n" ++ (packages_text text rows ++ remaining_text text rows twins numbers)
  unfolding tidied_rows
  parts_is = sym tidied-text

  module _ (o : Bytes) (at : ℕ) (h : at + length (text_of (tidied T)) ≤ length o) where
    pub header-room : at + 12 ≤ length o
    header-room = omega (arith, h, ap length parts_is, length-append (ascii "typetable\t1\n") (packages_text text rows ++ remaining_text text rows twins numbers))

    module _ {o₁ : Bytes} {i : ℕ} (d : Wrote o at (ascii "typetable\t1\n") o₁ i) where
      both-room : i + length (packages_text text rows ++ remaining_text text rows twins numbers) ≤ length o₁
      both-room = room-left (packages_text text rows ++ remaining_text text rows twins numbers) d (rw parts_is at h)

      pub packages-room : i + length (packages_text text rows) ≤ length o₁
      packages-room = omega (arith, both-room, length-append (packages_text text rows) (remaining_text text rows twins numbers))

      pub remaining-room : {o₂ : Bytes} {j : ℕ} → Wrote o₁ i (packages_text text rows) o₂ j → j + length (remaining_text text rows twins numbers) ≤ length o₂
      remaining-room e = room-left (remaining_text text rows twins numbers) e both-room

  pub tidied-wrote : {o o₁ o₂ o₃ : Bytes} {at i j r : ℕ} → Wrote o at (ascii "typetable\t1\n") o₁ i → Wrote o₁ i (packages_text text rows) o₂ j → Wrote o₂ j (remaining_text text rows twins numbers) o₃ r
      → Wrote o at (text_of (tidied T)) o₃ r
  tidied-wrote d e f = wrote_as parts_is refl (then-wrote d (then-wrote e f))

-- ---- one type

module _ (text : Bytes) (rows twins numbers : Words) (t : TypeKey) where
  own-none : (get_or twins t.0 0 ≡ t.0 → ⊥) → own_text text rows twins numbers t ≡ []
  unfolding own_text
  own-none n = rw (ne_eqb (get_or twins t.0 0) t.0 n)

  own-some : get_or twins t.0 0 ≡ t.0 → own_text text rows twins numbers t ≡ type_lines_text numbers text rows t
  unfolding own_text
  own-some e = rw (eq-eqb (get_or twins t.0 0) t.0 e)

  pub none-wrote : (get_or twins t.0 0 ≡ t.0 → ⊥) → (o : Bytes) (at : ℕ) → Wrote o at (own_text text rows twins numbers t) o at
  none-wrote n o at = wrote_as (own-none n) refl (wrote_nothing o at)

  module _ (e : get_or twins t.0 0 ≡ t.0) where
    pub some-room : (o : Bytes) (at : ℕ) → at + length (own_text text rows twins numbers t) ≤ length o → at + length (type_lines_text numbers text rows t) ≤ length o
    some-room o at h = rw (own-some e) at h

    pub some-wrote : {o o₁ : Bytes} {at r : ℕ} → Wrote o at (type_lines_text numbers text rows t) o₁ r → Wrote o at (own_text text rows twins numbers t) o₁ r
    some-wrote d = wrote_as (own-some e) refl d
