-- Numbers: how the loop over the digits of a field goes on, and how it ends.
use mathlib.Core.Path.{◌≡◌, refl, sym, ap, ◌∙◌}
use mathlib.Core.Bool.{Bool, true, false, ◌&&◌, and-false}
use mathlib.Core.List.{[], ◌∷◌}
use mathlib.Core.Option.{none, some}
use Prim.Native.Nat.{ℕ, suc, ◌+◌, ◌-◌, ◌*◌, ◌≤◌, ◌<◌}
use native.Mathlib.Omega.{arith}
use lib.Dec.{eqb, leb}
use lib.ListN.{length, get_or}
use borrow.Author.Tests.{ne_eqb, eqb-true, eqb-false, leb-true, leb-false, le-leb, lt-leb}
use Rattle.objects.specs.Lists.{Bytes, every, head_or, when}
use Rattle.objects.proofs.ListLaws.{cases, clash, or-true}
use Rattle.text.specs.declared.Cursor.{Cursor}
use Rattle.std.specs.declared.option.Option as code
use Rattle.std.specs.Prelude.{Some, None}
use Rattle.text.specs.Bytes.{is_digit, value_from, is_numeral, number}
use Rattle.text.specs.Lines.{fields}
use Rattle.text.specs.Readers.{field}
use Rattle.text.specs.Cursors.{part, num_read}
use Rattle.text.specs.Runs.{stop_at, byte_in, past_tab, pushed, digits_read, digits_left}
use Rattle.text.proofs.PartLaws.{part-next, part_none, byte-within, byte_next}
use Rattle.text.proofs.FieldLaws.{left-more, left-none, fields-end, fields-tab, fields-next, field-ext, field-none, past-empty, past-byte}

-- ---- one digit more

digit-tab : (b : ℕ) → is_digit b ≡ true → eqb b 9 ≡ false
digit-tab b e = cases (eqb b 9) (λ f. clash e (ap is_digit (eqb-true b 9 f))) (λ f. f)

value_grows : (v : ℕ) (l : Bytes) → v ≤ value_from v l
unfolding value_from
value_grows v [] = omega arith
value_grows v (b ∷ l) = let h = value_grows (v * 10 + (b - 48)) l in omega arith

digit_not : {w : ℕ} → ◌≡◌ {A = code.Option ℕ} None (Some w) → ◌≡◌ {A = Bool} true false
digit_not x = cc

module _ (v b max : ℕ) {d : code.Option ℕ} (pd : d ≡ pushed v b max) where
  -- what was pushed was a digit
  pub pushed-next : {w : ℕ} → d ≡ Some w → (is_digit b ≡ true) × (w ≡ v * 10 + (b - 48)) × (w ≤ max)
  unfolding pushed
  pushed-next {w} q =
      cases (is_digit b)
      (λ e. cases (leb (v * 10 + (b - 48)) max)
      (λ f. let x : ◌≡◌ {A = code.Option ℕ} (Some (v * 10 + (b - 48))) (Some w) = sym (pd ∙ rw (e, f)) ∙ q in
      let y : w ≡ v * 10 + (b - 48) = cc in
      let l = leb-true (v * 10 + (b - 48)) max f in
      (e, y, omega arith))
      (λ f. let x : ◌≡◌ {A = code.Option ℕ} None (Some w) = sym (pd ∙ rw (e, f)) ∙ q in clash refl (digit_not x)))
      (λ e. let x : ◌≡◌ {A = code.Option ℕ} None (Some w) = sym (pd ∙ rw e) ∙ q in clash refl (digit_not x))

  -- what was not pushed is no digit, or too much
  pub pushed-wrong : d ≡ None → (x : Bytes) → digits_read max v (b ∷ x) ≡ none
  unfolding pushed digits_read value_from
  pushed-wrong q x =
      cases (is_digit b)
      (λ e. cases (leb (v * 10 + (b - 48)) max)
      (λ f. let y : ◌≡◌ {A = code.Option ℕ} (Some (v * 10 + (b - 48))) None = sym (pd ∙ rw (e, f)) ∙ q in clash refl (digit_not (sym y)))
      (λ f. let g = leb-false (v * 10 + (b - 48)) max f in
      let h = value_grows (v * 10 + (b - 48)) x in
      let k : max < value_from (v * 10 + (b - 48)) x = omega arith in
      rw (lt-leb (value_from (v * 10 + (b - 48)) x) max k, and-false)))
      (λ e. rw e)

pushed-read : (v b max w : ℕ) → is_digit b ≡ true → w ≡ v * 10 + (b - 48) → (x : Bytes) → digits_read max v (b ∷ x) ≡ digits_read max w x
unfolding digits_read value_from
pushed-read v b max w e p x = rw (e, p)

-- ---- the loop: stop is the end within the text, v what was read up to i

module _ (s : Bytes) (i end max v : ℕ) {stop : ℕ} (ps : stop ≡ stop_at s end) where
  read_all : v ≤ max → digits_read max v [] ≡ some v
  unfolding digits_read value_from
  read_all m = rw (le-leb v max m)

  pub digits-end : stop ≤ i → v ≤ max → digits_left max v (part s i end) ≡ num_read s (Some (v, (record { at = i; end = end; more = false })))
  unfolding digits_left num_read
  digits-end h m = rw (part_none s i end ps h, fields-end, read_all m, left-none s (record { at = i; end = end; more = false }) refl)

  module _ (h : i < stop) {b : ℕ} (pb : b ≡ get_or s i 0) where
    here : part s i end ≡ b ∷ part s (i + 1) end
    here = part-next s i end ps h ∙ ap (λ x. x ∷ part s (i + 1) end) (sym pb)

    pub digits-tab : {t : Bool} → t ≡ eqb b 9 → t ≡ true → v ≤ max
        → digits_left max v (part s i end) ≡ num_read s (Some (v, (record { at = i + 1; end = end; more = true })))
    unfolding digits_left num_read
    digits-tab pt e m =
        rw (here, fields-tab b (part s (i + 1) end) (sym pt ∙ e), read_all m, left-more s (record { at = i + 1; end = end; more = true }) refl)

    module _ {t : Bool} (pt : t ≡ eqb b 9) (e : t ≡ false) {d : code.Option ℕ} (pd : d ≡ pushed v b max) where
      pub digits-wrong : d ≡ None → digits_left max v (part s i end) ≡ num_read s None
      unfolding digits_left num_read
      digits-wrong q =
          ap (λ l. field (digits_read max v) (fields l)) here
          ∙ fields-next (digits_read max v) b (part s (i + 1) end) (sym pt ∙ e)
          ∙ field-none _ (pushed-wrong v b max pd q) (fields (part s (i + 1) end))

      pub digits-next : {w : ℕ} → d ≡ Some w → digits_left max v (part s i end) ≡ digits_left max w (part s (i + 1) end)
      unfolding digits_left
      digits-next {w} q =
          ap (λ l. field (digits_read max v) (fields l)) here
          ∙ fields-next (digits_read max v) b (part s (i + 1) end) (sym pt ∙ e)
          ∙ field-ext _ (digits_read max w) (goes (pushed-next v b max pd q)) (fields (part s (i + 1) end))
        where
          goes : (is_digit b ≡ true) × (w ≡ v * 10 + (b - 48)) × (w ≤ max) → (x : Bytes) → digits_read max v (b ∷ x) ≡ digits_read max w x
          goes r x = pushed-read v b max w r.0 r.1 x

-- ---- the whole number

pub number-when : (max : ℕ) (b : Bytes) → number max b ≡ when (is_numeral b && leb (value_from 0 b) max) (value_from 0 b)
unfolding number
number-when max b = go (is_numeral b && leb (value_from 0 b) max)
  where
    go : (t : Bool) → (elim t [ true ↦ some (value_from 0 b) | false ↦ none ]) ≡ when t (value_from 0 b)
    go true = refl
    go false = refl

-- a numeral that does not begin with 0 is its digits
numeral-digits : (max b : ℕ) → eqb b 48 ≡ false → (x : Bytes) → number max (b ∷ x) ≡ digits_read max 0 (b ∷ x)
unfolding is_numeral digits_read
numeral-digits max b e x =
    let n : eqb 48 b ≡ false = ne_eqb 48 b (λ z. eqb-false b 48 e (sym z)) in
    let k : eqb (suc (length x)) 0 ≡ false = ne_eqb (suc (length x)) 0 (λ z. omega arith) in
    number-when max (b ∷ x) ∙ cases (every is_digit (b ∷ x)) (λ f. rw (n, or-true, f, k)) (λ f. rw (n, or-true, f, k))

-- no numeral: nothing, a byte that is no digit, a 0 with a byte behind it
numeral-none : (max : ℕ) → number max [] ≡ none
unfolding is_numeral
numeral-none max = number-when max []

numeral-other : (max b : ℕ) → is_digit b ≡ false → (x : Bytes) → number max (b ∷ x) ≡ none
unfolding is_numeral
numeral-other max b e x = number-when max (b ∷ x) ∙ rw (e, and-false)

numeral-zeros : (max b : ℕ) (x : Bytes) → number max (48 ∷ b ∷ x) ≡ none
unfolding is_numeral
numeral-zeros max b x =
    let k : eqb (suc (suc (length x))) 1 ≡ false = ne_eqb (suc (suc (length x))) 1 (λ z. omega arith) in
    number-when max (48 ∷ b ∷ x) ∙ rw (k, and-false)

numeral-zero : (max : ℕ) → number max (48 ∷ []) ≡ some 0
unfolding is_numeral value_from
numeral-zero max = number-when max (48 ∷ []) ∙ rw (le-leb 0 max (omega arith))

-- b is the field's first byte, or 256; t whether it is a digit, u whether it is 0
module _ (s : Bytes) (at end max : ℕ) {b : ℕ} {t : Bool} (pb : b ≡ byte_in s at end) (pt : t ≡ is_digit b) where
  pub number-other : t ≡ false → field (number max) (fields (part s at end)) ≡ num_read s None
  unfolding num_read byte_in
  number-other e = go (part s at end) pb
    where
      go : (l : Bytes) → b ≡ head_or 256 l → field (number max) (fields l) ≡ none
      go [] q = rw (fields-end, numeral-none max)
      go (x ∷ l) q =
          cases (eqb x 9)
          (λ f. rw (fields-tab x l f, numeral-none max))
          (λ f. fields-next (number max) x l f ∙ field-none _ (numeral-other max x (ap is_digit (sym q) ∙ sym pt ∙ e)) (fields l))

  module _ (e : t ≡ true) where
    digit-below : b < 256
    digit-below = cases (leb b 57) (λ f. let z = leb-true b 57 f in omega arith) (λ f. clash (sym pt ∙ e) (rw (f, and-false)))

    pub digit-within : at < length s
    digit-within = byte-within s at end pb digit-below

    there : part s at end ≡ b ∷ part s (at + 1) end
    there = byte_next s at end pb digit-below

    pub number_digits : {u : Bool} → u ≡ eqb b 48 → u ≡ false → field (number max) (fields (part s at end)) ≡ digits_left max 0 (part s at end)
    unfolding digits_left
    number_digits pu f =
        rw there
        (fields-next (number max) b (part s (at + 1) end) (digit-tab b (sym pt ∙ e))
        ∙ field-ext _ _ (numeral-digits max b (sym pu ∙ f)) (fields (part s (at + 1) end))
        ∙ sym (fields-next (digits_read max 0) b (part s (at + 1) end) (digit-tab b (sym pt ∙ e))))

    module _ {u : Bool} (pu : u ≡ eqb b 48) (f : u ≡ true) where
      zero-next : field (number max) (fields (part s at end)) ≡ field (λ x. number max (48 ∷ x)) (fields (part s (at + 1) end))
      zero-next =
          let z : b ≡ 48 = eqb-true b 48 (sym pu ∙ f) in
          rw (there, z) (fields-next (number max) 48 (part s (at + 1) end) refl)

      pub number-zero : {past : code.Option Cursor} {c : Cursor} → past ≡ past_tab s (at + 1) end → past ≡ Some c
          → field (number max) (fields (part s at end)) ≡ num_read s (Some (0, c))
      unfolding num_read
      number-zero {past} {c} pp q =
          zero-next ∙ past-empty (λ x. number max (48 ∷ x)) s (at + 1) end (sym pp ∙ q) ∙ rw (numeral-zero max)

      pub number-zeros : {past : code.Option Cursor} → past ≡ past_tab s (at + 1) end → past ≡ None
          → field (number max) (fields (part s at end)) ≡ num_read s None
      unfolding num_read
      number-zeros pp q = zero-next ∙ past-byte (λ x. number max (48 ∷ x)) (numeral-zeros max) s (at + 1) end (sym pp ∙ q)
