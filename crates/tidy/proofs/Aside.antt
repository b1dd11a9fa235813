-- The tidied text is written into the output, or aside and then into the output: there is room for it, and what is copied is the text.
use mathlib.Core.Path.{◌≡◌, refl, sym, ap, ◌∙◌}
use Prim.Native.Nat.{ℕ, ◌+◌, ◌-◌, ◌≤◌, ◌<◌}
use native.Mathlib.Omega.{arith}
use lib.ListN.{length, take, drop}
use lib.Seq.{take_at}
use Rattle.objects.specs.Bounds.{max_text}
use Rattle.objects.specs.Lists.{Bytes}
use Rattle.objects.specs.Rows.{Words, type_count, table_of}
use Rattle.rules.specs.Asked.{say, written}
use Rattle.rules.specs.Library.{Library}
use Rattle.print.specs.Written.{Wrote}
use Rattle.print.proofs.WrittenLaws.{written-answer, wrote_as}
use Rattle.std.proofs.Common.{Ok, Err}
use Rattle.reply.specs.declared.Unsaid.{Unsaid}
use Rattle.reply.specs.Done.{Does}
use Rattle.reply.proofs.Saying.{too-long, fits_said}
use Rattle.edits.specs.Tidy.{tidied}
use Rattle.edits.specs.TableText.{text_of}
use Rattle.table_text.proofs.SoundLoads.{loaded-short}
use Rattle.twins.specs.Labels.{Twinned}
use Rattle.tidy.specs.Numbers.{Backward, NewNumbers, Renumbered}
use Rattle.tidy.proofs.NumberLaws.{twins-backward, numbers-tidy}
use Rattle.tidy.proofs.Texts.{tidied-shorter}

module _ (text : Bytes) (rows : Words) (lib : Library text rows) where
  pub aside-room : (o : Bytes) → max_text ≤ length o → 0 + length (text_of (tidied (table_of text rows))) ≤ length o
  aside-room o h = omega (arith, tidied-shorter text (table_of text rows) lib.loads, loaded-short text (table_of text rows) lib.loads)

  -- an output as long as the text has room
  pub output-room : (o : Bytes) → length text ≤ length o → 0 + length (text_of (tidied (table_of text rows))) ≤ length o
  output-room o h = omega (arith, tidied-shorter text (table_of text rows) lib.loads, h)

  pub output-said : (o : Bytes) → length text ≤ length o → {after : Bytes} {r : ℕ} → Wrote o 0 (text_of (tidied (table_of text rows))) after r
      → Does (say (text_of (tidied (table_of text rows)))) (Ok r) o after
  output-said o h w = fits_said o (text_of (tidied (table_of text rows))) refl (omega (arith, output-room o h)) w

  -- as many as were counted
  module _ (twins : Words) (w : Twinned text rows twins) {count : ℕ} (q : count ≡ type_count rows) where
    pub backward-as : Backward twins count
    backward-as t h = twins-backward text rows lib twins w t (rw q at h)

    pub numbers_as : (numbers : Words) → NewNumbers twins count numbers → Renumbered text rows numbers
    numbers_as numbers n = numbers-tidy text rows lib twins w numbers (λ t h. n t (rw q h))

-- what stands in front of the bytes aside
module _ (o bytes : Bytes) (h : 0 + length bytes ≤ length o) {o₁ : Bytes} {n : ℕ} (d : Wrote o 0 bytes o₁ n) where
  size_is : n ≡ length bytes
  size_is = omega (arith, d.past)

  front-is : take n o₁ ≡ bytes
  unfolding written
  front-is = rw (size_is, d.text ∙ written-answer o bytes (omega arith)) (take_at bytes (drop (length bytes) o) (length bytes) refl)

  pub aside-long : (output : Bytes) → length output < n → Does (say bytes) (Err (Unsaid.Long n)) output output
  aside-long output l = too-long output bytes size_is l

  pub aside-said : {output after part : Bytes} {r : ℕ} → n ≤ length output → part ≡ take (n - 0) o₁ → Wrote output 0 part after r → Does (say bytes) (Ok r) output after
  aside-said {output} l p e = let z : n - 0 ≡ n = omega arith in fits_said output bytes size_is l (wrote_as (sym front-is ∙ ap (λ k. take k o₁) (sym z) ∙ sym p) refl e)
