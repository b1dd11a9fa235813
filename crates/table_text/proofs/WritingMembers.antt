-- Laws of the P, F and M lines that the code writes (specs/Rows.antt), part by part.
use mathlib.Core.Path.{◌≡◌, refl, sym, ap, ◌∙◌}
use mathlib.Core.List.{[], ◌∷◌, ◌++◌, append_assoc, append-nil}
use Prim.Native.Nat.{ℕ, ◌+◌, ◌-◌, ◌≤◌, ◌<◌}
use native.Mathlib.Omega.{arith}
use lib.ListN.{length, take, drop, set, length-append}
use borrow.Author.Tests.{ne_eqb, lt-ltb, le-ltb}
use Rattle.objects.specs.Lists.{Bytes}
use Rattle.objects.specs.declared.ObjKey.{ObjKey}
use Rattle.objects.specs.declared.PackageKey.{PackageKey}
use Rattle.objects.specs.Table.{type_key}
use Rattle.objects.specs.Rows.{Words, bytes_at, package_meant, package_from, pkg_of, package_word, member_word, path_read, entity_of, member_at}
use Rattle.objects.proofs.RowLaws.{by_form, last-form}
use Rattle.text.specs.Bytes.{ascii, decimal}
use Rattle.rules.specs.Answer.{tabbed}
use Rattle.rules.specs.Forms.{member_line}
use Rattle.print.specs.Written.{Wrote}
use Rattle.print.proofs.WrittenLaws.{byte-wrote, wrote_nothing, wrote_as, then-wrote}
use Rattle.edits.specs.TableText.{package_bytes, tag_fields, line_body}
use Rattle.edits.proofs.CarriedLaws.{package-same}
use Rattle.table_text.specs.Rows.{carried_number, package_text, member_text, form_letter, form_flag, form_tag, package_field}
use Rattle.table_text.proofs.Writing.{room-left}

-- ---- parts

pub end-wrote : (out : Bytes) (at : ℕ) → Wrote out at (10 ∷ []) (set out at 10) (at + 1)
end-wrote out at = byte-wrote (wrote_nothing (set out at 10) (at + 1))

module _ (form : ℕ) where
  pub tag-method : (tag : Bytes) → 1 < form → form_tag form tag ≡ []
  unfolding form_tag
  tag-method tag h = rw (lt-ltb 1 form h)

  -- w is the part of the text
  module _ (text : Bytes) (from count : ℕ) {w : Bytes} (p : w ≡ take count (drop from text)) (h : form ≤ 1) where
    tag-fields : form_tag form (bytes_at text from count) ≡ tabbed (tag_fields w)
    unfolding form_tag bytes_at
    tag-fields = rw (le-ltb 1 form h, p)

    pub tag-none : length w ≡ 0 → form_tag form (bytes_at text from count) ≡ []
    tag-none e = tag-fields ∙ go w e
      where
        go : (x : Bytes) → length x ≡ 0 → tabbed (tag_fields x) ≡ []
        go [] e = refl
        go (b ∷ x) e = absurd (omega arith)

    pub tag-some : (length w ≡ 0 → ⊥) → form_tag form (bytes_at text from count) ≡ 9 ∷ w
    tag-some n = tag-fields ∙ go w n
      where
        go : (x : Bytes) → (length x ≡ 0 → ⊥) → tabbed (tag_fields x) ≡ 9 ∷ x
        go [] n = absurd (n refl)
        go (b ∷ x) n = ap (λ r. 9 ∷ b ∷ r) (append-nil x)

module _ (n : ℕ) where
  pub package-none : n ≡ 0 → package_field n ≡ ascii "\t-"
  unfolding package_field pkg_of package_meant package_from
  package-none e = rw e

  pub package-some : (n ≡ 0 → ⊥) → package_field n ≡ 9 ∷ decimal (n - 1)
  unfolding package_field pkg_of package_meant package_from
  package-some e = rw (ne_eqb n 0 e)

-- room for a part, in other words
pub room_for : (o : Bytes) (at : ℕ) {a w : Bytes} → a ≡ w → at + length a ≤ length o → at + length w ≤ length o
room_for o at e h = omega (arith, ap length e, h)

-- a first byte, and room for the rest
pub room-first : (o : Bytes) (at : ℕ) {b : ℕ} {a w : Bytes} → a ≡ b ∷ w → at + length a ≤ length o → (at < length o) × (at + 1 + length w ≤ length o)
room-first o at e h = (omega (arith, ap length e, h), omega (arith, ap length e, h))

-- room for the first of two parts
room-front : (o : Bytes) (at : ℕ) (a b : Bytes) → at + length (a ++ b) ≤ length o → at + length a ≤ length o
room-front o at a b h = omega (arith, length-append a b, h)

-- ---- P lines

module _ (text : Bytes) (rows : Words) (p : PackageKey) {from count : ℕ} (pf : from ≡ package_word rows p 0) (pc : count ≡ package_word rows p 1) where
  package-is : package_text text rows p ≡ ascii "P\t" ++ (bytes_at text from count ++ (10 ∷ []))
  unfolding package_text line_body path_read
  package-is = rw (pf, pc, append-nil (bytes_at text (package_word rows p 0) (package_word rows p 1)))

  module _ (o : Bytes) (at : ℕ) (h : at + length (package_text text rows p) ≤ length o) where
    pub package-room : at + 2 ≤ length o
    package-room = room-front o at (ascii "P\t") (bytes_at text from count ++ (10 ∷ [])) (rw package-is at h)

    module _ {o₁ : Bytes} {i : ℕ} (d : Wrote o at (ascii "P\t") o₁ i) where
      pub path_room : i + length (bytes_at text from count) ≤ length o₁
      path_room = room-front o₁ i (bytes_at text from count) (10 ∷ []) (room-left (bytes_at text from count ++ (10 ∷ [])) d (rw package-is at h))

      pub path-end-room : {o₂ : Bytes} {j : ℕ} → Wrote o₁ i (bytes_at text from count) o₂ j → j + 1 ≤ length o₂
      path-end-room e = room-left (10 ∷ []) e (room-left (bytes_at text from count ++ (10 ∷ [])) d (rw package-is at h))

  pub package-wrote : {o o₁ o₂ o₃ : Bytes} {at i j r : ℕ} → Wrote o at (ascii "P\t") o₁ i → Wrote o₁ i (bytes_at text from count) o₂ j → Wrote o₂ j (10 ∷ []) o₃ r
      → Wrote o at (package_text text rows p) o₃ r
  package-wrote d e f = wrote_as package-is refl (then-wrote d (then-wrote e f))

-- ---- F and M lines

-- seven parts, and the last six behind the first
regroup : (a b c d e f : Bytes) → (a ++ (b ++ (c ++ (d ++ e)))) ++ f ≡ a ++ (b ++ (c ++ (d ++ (e ++ f))))
regroup a b c d e f = simp append_assoc

module _ (name tag : Bytes) (p t : ℕ) where
  -- what stands behind the letter and its tab
  behind-letter : (flag : ℕ) (rest : Bytes) → (name ++ ((9 ∷ package_bytes (pkg_of p)) ++ ((9 ∷ decimal t) ++ ((9 ∷ decimal flag) ++ rest)))) ++ (10 ∷ [])
      ≡ name ++ (package_field p ++ ((9 ∷ decimal t) ++ ((9 ∷ decimal flag) ++ (rest ++ (10 ∷ [])))))
  unfolding package_field
  behind-letter flag rest = regroup name (9 ∷ package_bytes (pkg_of p)) (9 ∷ decimal t) (9 ∷ decimal flag) rest (10 ∷ [])

  abbrev formed : ℕ → Bytes
  formed form = form_letter form ++ (name ++ (package_field p ++ ((9 ∷ decimal t) ++ ((9 ∷ decimal (form_flag form)) ++ (form_tag form tag ++ (10 ∷ []))))))

  member-form : (form : ℕ) → line_body (member_line name (pkg_of p) (type_key t) (entity_of form tag)) ++ (10 ∷ []) ≡ formed form
  unfolding line_body entity_of form_letter form_flag form_tag
  member-form =
      by_form _
      (ap (λ r. 70 ∷ 9 ∷ r) (behind-letter 0 (tabbed (tag_fields tag))))
      (ap (λ r. 70 ∷ 9 ∷ r) (behind-letter 1 (tabbed (tag_fields tag))))
      (ap (λ r. 77 ∷ 9 ∷ r) (behind-letter 0 []))
      (λ k h. ap (λ e. line_body (member_line name (pkg_of p) (type_key t) e) ++ (10 ∷ [])) (last-form tag k h) ∙ ap (λ r. 77 ∷ 9 ∷ r) (behind-letter 1 []) ∙ sym (late k h))
    where
      late : (k : ℕ) → 3 ≤ k → formed k ≡ 77 ∷ 9 ∷ (name ++ (package_field p ++ ((9 ∷ decimal t) ++ ((9 ∷ decimal 1) ++ (10 ∷ [])))))
      late k h = rw (lt-ltb 1 k (omega arith), ne_eqb k 1 (λ e. omega arith), lt-ltb 2 k (omega arith))

-- the words of a member's row, as they were read
module _ (numbers : Words) (text : Bytes) (rows : Words) (m : ObjKey) {n l p u t form g h flag : ℕ} (p0 : n ≡ member_word rows m 0) (p1 : l ≡ member_word rows m 1) (p2 : p ≡ member_word rows m 2)
    (p3 : u ≡ member_word rows m 3) (pt : t ≡ carried_number numbers u) (p4 : form ≡ member_word rows m 4) (p5 : g ≡ member_word rows m 5) (p6 : h ≡ member_word rows m 6) (pf : flag ≡ form_flag form) where
  abbrev name : Bytes
  name = bytes_at text n l

  abbrev from-tag : Bytes
  from-tag = form_tag form (bytes_at text g h) ++ (10 ∷ [])

  abbrev from-flag : Bytes
  from-flag = (9 ∷ decimal flag) ++ from-tag

  abbrev from-type : Bytes
  from-type = (9 ∷ decimal t) ++ from-flag

  abbrev from-package : Bytes
  from-package = package_field p ++ from-type

  member_is : member_text numbers text rows m ≡ form_letter form ++ (name ++ from-package)
  unfolding member_text member_at
  member_is =
      rw (pf, p0, p1, p2, pt, p3, p4, p5, p6, package-same (pkg_of (member_word rows m 2)))
      (member-form (bytes_at text (member_word rows m 0) (member_word rows m 1)) (bytes_at text (member_word rows m 5) (member_word rows m 6))
      (member_word rows m 2) (carried_number numbers (member_word rows m 3)) (member_word rows m 4))

  -- what is left to be written has room, after each part
  module _ (o : Bytes) (at : ℕ) (k : at + length (member_text numbers text rows m) ≤ length o) where
    pub letter-room : at + length (form_letter form) ≤ length o
    letter-room = room-front o at (form_letter form) (name ++ from-package) (rw member_is at k)

    module _ {o₁ : Bytes} {a : ℕ} (d₁ : Wrote o at (form_letter form) o₁ a) where
      left₁ : a + length (name ++ from-package) ≤ length o₁
      left₁ = room-left (name ++ from-package) d₁ (rw member_is at k)

      pub name-room : a + length name ≤ length o₁
      name-room = room-front o₁ a name from-package left₁

      module _ {o₂ : Bytes} {b : ℕ} (d₂ : Wrote o₁ a name o₂ b) where
        pub package-field-room : b + length (package_field p) ≤ length o₂
        package-field-room = room-front o₂ b (package_field p) from-type (room-left from-package d₂ left₁)

        module _ {o₃ : Bytes} {c : ℕ} (d₃ : Wrote o₂ b (package_field p) o₃ c) where
          left₃ : c + length from-type ≤ length o₃
          left₃ = room-left from-type d₃ (room-left from-package d₂ left₁)

          pub type-room : c + length (9 ∷ decimal t) ≤ length o₃
          type-room = room-front o₃ c (9 ∷ decimal t) from-flag left₃

          module _ {o₄ : Bytes} {d : ℕ} (d₄ : Wrote o₃ c (9 ∷ decimal t) o₄ d) where
            pub flag-room : d + length (9 ∷ decimal flag) ≤ length o₄
            flag-room = room-front o₄ d (9 ∷ decimal flag) from-tag (room-left from-flag d₄ left₃)

            module _ {o₅ : Bytes} {e : ℕ} (d₅ : Wrote o₄ d (9 ∷ decimal flag) o₅ e) where
              left₅ : e + length from-tag ≤ length o₅
              left₅ = room-left from-tag d₅ (room-left from-flag d₄ left₃)

              pub tag-room : e + length (form_tag form (bytes_at text g h)) ≤ length o₅
              tag-room = room-front o₅ e (form_tag form (bytes_at text g h)) (10 ∷ []) left₅

              pub end-room : {o₆ : Bytes} {f : ℕ} → Wrote o₅ e (form_tag form (bytes_at text g h)) o₆ f → f + 1 ≤ length o₆
              end-room d₆ = room-left (10 ∷ []) d₆ left₅

  pub member-wrote : {o o₁ o₂ o₃ o₄ o₅ o₆ o₇ : Bytes} {at a b c d e f r : ℕ} → Wrote o at (form_letter form) o₁ a → Wrote o₁ a name o₂ b → Wrote o₂ b (package_field p) o₃ c
      → Wrote o₃ c (9 ∷ decimal t) o₄ d → Wrote o₄ d (9 ∷ decimal flag) o₅ e → Wrote o₅ e (form_tag form (bytes_at text g h)) o₆ f → Wrote o₆ f (10 ∷ []) o₇ r
      → Wrote o at (member_text numbers text rows m) o₇ r
  member-wrote d₁ d₂ d₃ d₄ d₅ d₆ d₇ = wrote_as member_is refl (then-wrote d₁ (then-wrote d₂ (then-wrote d₃ (then-wrote d₄ (then-wrote d₅ (then-wrote d₆ d₇))))))
