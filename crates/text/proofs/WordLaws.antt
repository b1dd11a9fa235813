-- A fixed word as the next field: how the loop over its bytes goes on, and how it ends.
use mathlib.Core.Path.{◌≡◌, refl, sym, ap, ap₂, ◌∙◌}
use mathlib.Core.Bool.{Bool, true, false}
use mathlib.Core.List.{List, [], ◌∷◌}
use mathlib.Core.Option.{Option, none}
use Prim.Native.Nat.{ℕ, ◌+◌, ◌≤◌, ◌<◌}
use native.Mathlib.Omega.{arith}
use lib.Dec.{eqb}
use lib.ListN.{length, get_or, drop, drop_of_length-le}
use borrow.Author.Tests.{eqb-true, eq-eqb}
use Rattle.objects.specs.Lists.{Bytes, head_or, when, mapped}
use Rattle.objects.proofs.ListLaws.{cases}
use Rattle.text.specs.declared.Cursor.{Cursor}
use Rattle.std.specs.declared.option.Option as code
use Rattle.std.specs.Prelude.{Some, None}
use Rattle.text.specs.Bytes.{same_bytes}
use Rattle.text.specs.Lines.{fields}
use Rattle.text.specs.Readers.{field}
use Rattle.text.specs.Cursors.{part, fields_left, exactly, past_read}
use Rattle.text.specs.Runs.{byte_in, past_tab}
use Rattle.text.proofs.PartLaws.{drop_at, byte-within, byte_next}
use Rattle.text.proofs.FieldLaws.{left-none, fields-end, fields-tab, fields-next, field-ext, field-none, past-empty, past-byte}

-- no field is left
pub exactly-none : (s w : Bytes) (c : Cursor) → c.more ≡ false → exactly w (fields_left s c) ≡ past_read s None
unfolding exactly past_read
exactly-none s w c h = rw (left-none s c h)

-- the word as a test of the next field
matches : Bytes → Bytes → Option (Unit {0})
matches w b = when (same_bytes b w) tt

exactly-field : (w : Bytes) (fs : List Bytes) → exactly w fs ≡ mapped (λ p. p.1) (field (matches w) fs)
unfolding exactly matches
exactly-field w [] = refl
exactly-field w (b ∷ fs) = cases (same_bytes b w) (λ e. rw e) (λ e. rw e)

exactly-no : (w : Bytes) (fs : List Bytes) → field (matches w) fs ≡ none → exactly w fs ≡ none
exactly-no w fs h = exactly-field w fs ∙ ap (mapped (λ p. p.1)) h

-- a word of at least one byte: what is left of the line begins with another, with a tab, or with that byte
starts_other : (x : ℕ) (w l : Bytes) → eqb (head_or 256 l) x ≡ false → eqb (head_or 256 l) 9 ≡ false → field (matches (x ∷ w)) (fields l) ≡ none
unfolding matches
starts_other x w [] n e = rw fields-end
starts_other x w (b ∷ l) n e = fields-next (matches (x ∷ w)) b l e ∙ field-none (λ y. matches (x ∷ w) (b ∷ y)) (λ y. rw n) (fields l)

starts-tab : (x : ℕ) (w l : Bytes) → field (matches (x ∷ w)) (fields (9 ∷ l)) ≡ none
unfolding matches
starts-tab x w l = rw (fields-tab 9 l refl)

starts-same : (x : ℕ) (w l : Bytes) → eqb x x ≡ true → eqb x 9 ≡ false → field (matches (x ∷ w)) (fields (x ∷ l)) ≡ field (matches w) (fields l)
unfolding matches
starts-same x w l n e = fields-next (matches (x ∷ w)) x l e ∙ field-ext (λ y. matches (x ∷ w) (x ∷ y)) (matches w) (λ y. rw n) (fields l)

-- ---- the loop: b is the byte at i, x that of the word at j, t whether b is a tab, u whether it is x

module _ (s w : Bytes) (i j end : ℕ) where
  module _ {b : ℕ} (pb : b ≡ byte_in s i end) (h : j < length w) {t : Bool} (pt : t ≡ eqb b 9) where
    pub word-tab : t ≡ true → exactly (drop j w) (fields (part s i end)) ≡ past_read s None
    unfolding past_read
    word-tab e =
        let z : b ≡ 9 = eqb-true b 9 (sym pt ∙ e) in
        let k : b < 256 = omega arith in
        rw (drop_at w j h, byte_next s i end pb k, z)
        (exactly-no _ _ (starts-tab (get_or w j 0) (drop (j + 1) w) (part s (i + 1) end)))

    module _ (e : t ≡ false) {x : ℕ} {u : Bool} (px : x ≡ get_or w j 0) (pu : u ≡ eqb b x) where
      no-tab : eqb b 9 ≡ false
      no-tab = sym pt ∙ e

      pub word-other : u ≡ false → exactly (drop j w) (fields (part s i end)) ≡ past_read s None
      unfolding past_read byte_in
      word-other f =
          rw (drop_at w j h)
          (exactly-no _ _ (starts_other (get_or w j 0) (drop (j + 1) w) (part s i end) (ap₂ eqb (sym pb) (sym px) ∙ sym pu ∙ f) (ap (λ y. eqb y 9) (sym pb) ∙ no-tab)))

      module _ (f : u ≡ true) (k : get_or w j 0 < 256) where
        same_byte : b ≡ get_or w j 0
        same_byte = eqb-true b x (sym pu ∙ f) ∙ px

        byte-below : b < 256
        byte-below = rw same_byte k

        pub word-within : i < length s
        word-within = byte-within s i end pb byte-below

        pub word_next : exactly (drop j w) (fields (part s i end)) ≡ exactly (drop (j + 1) w) (fields (part s (i + 1) end))
        word_next =
            rw (drop_at w j h, byte_next s i end pb byte-below, same_byte)
            (exactly-field _ _
            ∙ ap (mapped (λ p. p.1)) (starts-same (get_or w j 0) (drop (j + 1) w) (part s (i + 1) end) (eq-eqb (get_or w j 0) (get_or w j 0) refl) (ap (λ y. eqb y 9) (sym same_byte) ∙ no-tab))
            ∙ sym (exactly-field _ _))

  pub word_end : length w ≤ j → {r : code.Option Cursor} → r ≡ past_tab s i end → exactly (drop j w) (fields (part s i end)) ≡ past_read s r
  unfolding past_read matches
  word_end h {r} pr = rw (drop_of_length-le w h) (exactly-field [] (fields (part s i end)) ∙ go r pr)
    where
      go : (q : code.Option Cursor) → q ≡ past_tab s i end → mapped (λ p. p.1) (field (matches []) (fields (part s i end))) ≡ past_read s q
      go (Some c) e = ap (mapped (λ p. p.1)) (past-empty (matches []) s i end (sym e))
      go None e = ap (mapped (λ p. p.1)) (past-byte (matches []) (λ b x. refl) s i end (sym e))
