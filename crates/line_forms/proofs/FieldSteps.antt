-- The fields of a line as words of 32 bits (src/fields.rt), from what the cursor's readers tell.
use mathlib.Core.Path.{◌≡◌, refl, sym, ap, ◌∙◌}
use mathlib.Core.Bool.{Bool, true, false, not}
use mathlib.Core.List.{List, [], ◌∷◌}
use mathlib.Core.Option.{Option, none, some}
use Prim.Native.Nat.{ℕ, ◌-◌, ◌≤◌, ◌<◌}
use native.Mathlib.Omega.{arith}
use lib.ListN.{length}
use Rattle.objects.specs.declared.TypeKey.{TypeKey}
use Rattle.objects.specs.declared.PackageKey.{PackageKey}
use Rattle.std.specs.declared.option.Option as code
use Rattle.std.specs.Prelude.{Some, None}
use Rattle.objects.specs.Bounds.{max_reference}
use Rattle.objects.specs.Lists.{Bytes, empty, when, mapped}
use Rattle.objects.specs.Table.{type_key, package_key}
use Rattle.objects.specs.Rows.{bytes_at, package_meant}
use Rattle.objects.proofs.ListLaws.{cases, clash}
use Rattle.text.specs.declared.Cursor.{Cursor}
use Rattle.text.specs.declared.Part.{Part}
use Rattle.text.specs.Bytes.{ascii, same_bytes, is_name, is_blank, is_tag, number}
use Rattle.text.specs.Readers.{field}
use Rattle.text.specs.Cursors.{part, fields_left, exactly, part_read, num_read, past_read}
use Rattle.text.specs.Runs.{Exact}
use Rattle.text.proofs.FieldLaws.{done-left}
use Rattle.text.proofs.AnswerLaws.{num-on, num-out, part-on, part_out, past-on, past-out, none-some, passed, exactly-some, number-below, exact-within}
use Rattle.rules.specs.Forms.{field_name, tag}
use Rattle.line_forms.specs.declared.Typed.{Typed}
use Rattle.line_forms.specs.Steps.{next, numbered, packaged, method_named, tagged, typed_rest}
use Rattle.line_forms.specs.Forms.{small_read, piece_read, packaged_read, typed_read}

-- ---- numbers

module _ (s : Bytes) (max : ℕ) (fs : List Bytes) (r : code.Option (ℕ × Cursor)) (p : num_read s r ≡ field (number max) fs) where
  pub small_is : {v : ℕ} {c : Cursor} → r ≡ Some (v, c) → small_read s (Some (v, c)) ≡ numbered max fs
  unfolding small_read numbered
  small_is q = sym (num-on s r p q)

  pub small-wrong : r ≡ None → small_read s None ≡ numbered max fs
  unfolding small_read numbered
  small-wrong q = sym (num-out s r p q)

  pub number_fits : {v : ℕ} {c : Cursor} → r ≡ Some (v, c) → v ≤ max
  number_fits q = number-below max fs (num-on s r p q)

-- ---- places

module _ (s : Bytes) (r : code.Option Part) {p : Part} (q : r ≡ Some p) where
  pub placed-is : piece_read s (Some (record { at = p.from; len = p.to - p.from; rest = p.rest })) ≡ part_read s r
  unfolding piece_read part_read bytes_at part
  placed-is = rw q

  -- a part of no bytes
  pub placed-empty : p.to ≤ p.from → piece_read s (Some (record { at = 0; len = 0; rest = p.rest })) ≡ part_read s r
  unfolding piece_read part_read bytes_at part
  placed-empty h = let z : p.to - p.from ≡ 0 = omega arith in rw (q, z)

  pub exact-is : Exact s r → Exact s (Some p)
  exact-is e = rw q at e

  pub placed-within : Exact s r → p.from < p.to → p.to ≤ length s
  placed-within e h = exact-within s p (exact-is e) h

-- ---- packages

no_word : (w b : Bytes) (fs : List Bytes) → exactly w (b ∷ fs) ≡ none → same_bytes b w ≡ false
unfolding exactly
no_word w b fs h = cases (same_bytes b w) (λ e. none-some (sym (rw e at h))) (λ e. e)

pub package-none : (s : Bytes) (fs : List Bytes) (r : code.Option Cursor) {c : Cursor} → past_read s r ≡ exactly (ascii "-") fs → r ≡ Some c → packaged_read s (Some (None, c)) ≡ packaged fs
unfolding packaged_read packaged package_meant
package-none s fs r p q = rw (exactly-some (ascii "-") fs (past-on s r p q))

package-some : (fs : List Bytes) (v : ℕ) (rest : List Bytes) → exactly (ascii "-") fs ≡ none → field (number max_reference) fs ≡ some (v, rest) → packaged fs ≡ some (some (package_key v), rest)
unfolding packaged
package-some [] v rest w h = none-some h
package-some (b ∷ fs) v rest w h = rw (no_word (ascii "-") b fs w) (go (number max_reference b) h)
  where
    go : (o : Option ℕ) → ◌≡◌ {A = Option (ℕ × List Bytes)} (mapped (λ n. (n, fs)) o) (some (v, rest))
        → ◌≡◌ {A = Option (Option PackageKey × List Bytes)} (mapped (λ a. (a, fs)) (mapped (λ n. some (package_key n)) o)) (some (some (package_key v), rest))
    go none e = none-some e
    go (some n) e =
        let i : ◌≡◌ {A = ℕ × List Bytes} (n, fs) (v, rest) = cc in
        let j : n ≡ v = ap (λ z. z.0) i in
        let k : fs ≡ rest = ap (λ z. z.1) i in
        rw (j, k)

no-package : (fs : List Bytes) → exactly (ascii "-") fs ≡ none → field (number max_reference) fs ≡ none → packaged fs ≡ none
unfolding packaged
no-package [] w h = refl
no-package (b ∷ fs) w h = rw (no_word (ascii "-") b fs w) (go (number max_reference b) h)
  where
    go : (o : Option ℕ) → ◌≡◌ {A = Option (ℕ × List Bytes)} (mapped (λ n. (n, fs)) o) none
        → ◌≡◌ {A = Option (Option PackageKey × List Bytes)} (mapped (λ a. (a, fs)) (mapped (λ n. some (package_key n)) o)) none
    go none e = refl
    go (some n) e = none-some (sym e)

module _ (s : Bytes) (fs : List Bytes) (w : code.Option Cursor) (r : code.Option (ℕ × Cursor)) (o : past_read s w ≡ exactly (ascii "-") fs) (x : w ≡ None) (p : num_read s r ≡ field (number max_reference) fs) where
  pub package-is : {v : ℕ} {c : Cursor} → r ≡ Some (v, c) → packaged_read s (Some (Some (package_key v), c)) ≡ packaged fs
  unfolding packaged_read package_meant
  package-is {v} {c} q = sym (package-some fs v (fields_left s c) (past-out s w o x) (num-on s r p q))

  pub package-wrong : r ≡ None → packaged_read s None ≡ packaged fs
  unfolding packaged_read
  package-wrong q = sym (no-package fs (past-out s w o x) (num-out s r p q))

-- ---- the name of a method

no_name : (fs : List Bytes) → field field_name fs ≡ none → method_named fs ≡ none
unfolding method_named
no_name [] h = refl
no_name (b ∷ fs) h = cases (is_name b) (λ e. none-some (sym (rw e at h))) (λ e. rw e)

module _ (s : Bytes) (fs : List Bytes) (r : code.Option Part) (p : part_read s r ≡ field (λ b. when (is_name b) b) fs) where
  pub method-wrong : r ≡ None → piece_read s None ≡ method_named fs
  unfolding piece_read
  method-wrong q = sym (no_name fs (part_out s r p q))

  module _ {x : Part} (q : r ≡ Some x) {t : Bool} (b : t ≡ is_blank (part s x.from x.to)) where
    pub method-blank : t ≡ true → piece_read s None ≡ method_named fs
    unfolding piece_read method_named
    method-blank e = let n = passed is_name fs (part-on s r p q) in rw (n.0, n.1, sym b ∙ e)

    pub method-is : {y : Option (Bytes × List Bytes)} → t ≡ false → y ≡ part_read s (Some x) → y ≡ method_named fs
    unfolding method_named part_read
    method-is e h = let n = passed is_name fs (part-on s r p q) in h ∙ sym (rw (n.0, n.1, sym b ∙ e))

-- ---- the tag

module _ (s : Bytes) (c : Cursor) {t : Bool} (p : t ≡ not c.more) where
  pub tag-done : {B : Type 0} (f : Bytes → List Bytes → Option B) → t ≡ true → next (tagged (fields_left s c)) f ≡ f [] []
  unfolding tagged next
  tag-done f e = go (fields_left s c) (done-left s c ∙ sym p ∙ e)
    where
      go : (l : List Bytes) → empty l ≡ true → next (tagged l) f ≡ f [] []
      go [] h = refl
      go (b ∷ l) h = clash h refl

  pub tag_read : {y : Option (Bytes × List Bytes)} → t ≡ false → y ≡ field (λ b. when (is_tag b) b) (fields_left s c) → y ≡ tagged (fields_left s c)
  unfolding tagged
  tag_read e h = h ∙ go (fields_left s c) (done-left s c ∙ sym p ∙ e)
    where
      go : (l : List Bytes) → empty l ≡ false → field (λ b. when (is_tag b) b) l ≡ tag l
      go [] k = clash refl k
      go (b ∷ l) k = cases (is_tag b) (λ i. rw i) (λ i. rw i)

-- ---- the bit

some_is : {A : Type 0} {a b : A} → some a ≡ some b → a ≡ b
some_is e = cc

next-some : {A B : Type 0} (f : A → List Bytes → Option B) (o : Option (A × List Bytes)) {b : B} → next o f ≡ some b → (a : A) × (r : List Bytes) × (o ≡ some (a, r)) × (f a r ≡ some b)
unfolding next
next-some f none h = none-some h
next-some f (some p) h = (p.0, p.1, refl, h)

bit-small : (fs : List Bytes) {h : Option PackageKey × TypeKey × ℕ} {rest : List Bytes} → typed_rest fs ≡ some (h, rest) → h.2 ≤ 1
unfolding typed_rest numbered
bit-small fs {h} {rest} e =
    let a = next-some _ (packaged fs) e in
    let b = next-some _ (field (number max_reference) a.1) a.3 in
    let d = next-some _ (field (number 1) b.1) b.3 in
    let i : ◌≡◌ {A = (Option PackageKey × TypeKey × ℕ) × List Bytes} ((a.0, type_key b.0, d.0), d.1) (h, rest) = some_is d.3 in
    let k : d.0 ≡ h.2 = ap (λ z. z.0.2) i in
    let w = number-below 1 b.1 d.2 in
    omega arith

pub bit-fits : (s : Bytes) (fs : List Bytes) (r : code.Option Typed) {x : Typed} → typed_read s r ≡ typed_rest fs → r ≡ Some x → x.bit ≤ 1
unfolding typed_read
bit-fits s fs r p q = bit-small fs (sym p ∙ ap (typed_read s) q)
