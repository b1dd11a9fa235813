-- A number of a line (line_forms, src/fields.rt) is what the form of a question reads: a type, 0 or 1, a package.
use mathlib.Core.Path.{◌≡◌, refl, sym, ap, ◌∙◌}
use mathlib.Core.List.{List, [], ◌∷◌}
use mathlib.Core.Option.{Option, none, some}
use Prim.Native.Nat.{ℕ}
use lib.Dec.{eqb}
use Rattle.std.specs.declared.option.Option as code
use Rattle.std.specs.Prelude.{Some, None}
use Rattle.objects.specs.declared.PackageKey.{PackageKey}
use Rattle.objects.specs.Bounds.{max_reference}
use Rattle.objects.specs.Lists.{Bytes, mapped}
use Rattle.objects.specs.Rows.{package_meant}
use Rattle.objects.specs.Table.{type_key}
use Rattle.text.specs.declared.Cursor.{Cursor}
use Rattle.text.specs.Bytes.{number}
use Rattle.text.specs.Readers.{field}
use Rattle.text.specs.Cursors.{fields_left}
use Rattle.rules.specs.Forms.{type_ref, package_ref, flag_bit}
use Rattle.line_forms.specs.Steps.{numbered, packaged}
use Rattle.line_forms.specs.Forms.{small_read, packaged_read}

-- ---- a number that stands for something

module _ {A B : Type 0} (g : A → B) (f : Bytes → Option A) where
  field-mapped : (fs : List Bytes) → field (λ b. mapped g (f b)) fs ≡ mapped (λ (p : A × List Bytes). (g p.0, p.1)) (field f fs)
  field-mapped [] = refl
  field-mapped (b ∷ fs) = go (f b)
    where
      go : (o : Option A) → ◌≡◌ {A = Option (B × List Bytes)} (mapped (λ a. (a, fs)) (mapped g o)) (mapped (λ (p : A × List Bytes). (g p.0, p.1)) (mapped {B = A × List Bytes} (λ a. (a, fs)) o))
      go none = refl
      go (some a) = refl

  mapped-on : (fs : List Bytes) {a : A} {rest : List Bytes} → field f fs ≡ some (a, rest) → field (λ b. mapped g (f b)) fs ≡ some (g a, rest)
  mapped-on fs h = field-mapped fs ∙ ap (mapped (λ (p : A × List Bytes). (g p.0, p.1))) h

  mapped_out : (fs : List Bytes) → field f fs ≡ none → field (λ b. mapped g (f b)) fs ≡ none
  mapped_out fs h = field-mapped fs ∙ ap (mapped (λ (p : A × List Bytes). (g p.0, p.1))) h

-- ---- r is the answer, fs the fields that it was read from

module _ (s : Bytes) (fs : List Bytes) (r : code.Option (ℕ × Cursor)) (p : small_read s r ≡ numbered max_reference fs) where
  pub ref-on : {v : ℕ} {c : Cursor} → r ≡ Some (v, c) → field type_ref fs ≡ some (type_key v, fields_left s c)
  unfolding small_read numbered
  ref-on q = mapped-on type_key (number max_reference) fs (sym p ∙ ap (small_read s) q)

  pub ref-out : r ≡ None → field type_ref fs ≡ none
  unfolding small_read numbered
  ref-out q = mapped_out type_key (number max_reference) fs (sym p ∙ ap (small_read s) q)

module _ (s : Bytes) (fs : List Bytes) (r : code.Option (ℕ × Cursor)) (p : small_read s r ≡ numbered 1 fs) where
  pub flag-on : {v : ℕ} {c : Cursor} → r ≡ Some (v, c) → field flag_bit fs ≡ some (eqb v 1, fields_left s c)
  unfolding small_read numbered
  flag-on q = mapped-on (λ n. eqb n 1) (number 1) fs (sym p ∙ ap (small_read s) q)

  pub flag-out : r ≡ None → field flag_bit fs ≡ none
  unfolding small_read numbered
  flag-out q = mapped_out (λ n. eqb n 1) (number 1) fs (sym p ∙ ap (small_read s) q)

module _ (s : Bytes) (fs : List Bytes) (r : code.Option (code.Option PackageKey × Cursor)) (p : packaged_read s r ≡ packaged fs) where
  pub pkg-on : {pkg : code.Option PackageKey} {c : Cursor} → r ≡ Some (pkg, c) → field package_ref fs ≡ some (package_meant pkg, fields_left s c)
  unfolding packaged_read packaged
  pkg-on q = sym p ∙ ap (packaged_read s) q

  pub pkg-out : r ≡ None → field package_ref fs ≡ none
  unfolding packaged_read packaged
  pkg-out q = sym p ∙ ap (packaged_read s) q
