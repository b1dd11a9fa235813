-- Laws of the lines of a type that the code writes (specs/Rows.antt): its T line, and its members if it has some.
use mathlib.Core.Path.{◌≡◌, refl}
use mathlib.Core.List.{◌++◌, append-nil}
use Prim.Native.Nat.{ℕ, ◌+◌, ◌≤◌, ◌<◌}
use native.Mathlib.Omega.{arith}
use lib.ListN.{length, length-append}
use borrow.Author.Tests.{lt-ltb, le-ltb}
use Rattle.objects.specs.Bounds.{word_values}
use Rattle.objects.specs.Lists.{Bytes}
use Rattle.objects.specs.declared.TypeKey.{TypeKey}
use Rattle.objects.specs.Rows.{Words}
use Rattle.objects.specs.Types.{number_read, first_read, total_read}
use Rattle.print.specs.Written.{Wrote}
use Rattle.print.proofs.WrittenLaws.{then-wrote, wrote_as}
use Rattle.table_text.specs.Rows.{type_text, members_text, type_lines_text}
use Rattle.table_text.proofs.Writing.{room-left}

module _ (numbers : Words) (text : Bytes) (rows : Words) (t : TypeKey) where
  pub line-room : (o : Bytes) (at : ℕ) → at + length (type_lines_text numbers text rows t) ≤ length o → at + length (type_text numbers rows t) ≤ length o
  unfolding type_lines_text
  line-room o at h = front _ h
    where
      front : (rest : Bytes) → at + length (type_text numbers rows t ++ rest) ≤ length o → at + length (type_text numbers rows t) ≤ length o
      front rest k = omega (arith, k, length-append (type_text numbers rows t) rest)

  module _ {k : ℕ} (p : k ≡ number_read rows t) where
    alone-is : k < 8 → type_lines_text numbers text rows t ≡ type_text numbers rows t
    unfolding type_lines_text
    alone-is h = rw (← p, lt-ltb k 8 h) (append-nil (type_text numbers rows t))

    pub alone-wrote : {o o₁ : Bytes} {at i : ℕ} → k < 8 → Wrote o at (type_text numbers rows t) o₁ i → Wrote o at (type_lines_text numbers text rows t) o₁ i
    alone-wrote h d = wrote_as (alone-is h) refl d

    module _ (h : 8 ≤ k) {first count : ℕ} (a : first ≡ first_read rows t) (b : count ≡ total_read rows t) where
      more-is : type_lines_text numbers text rows t ≡ type_text numbers rows t ++ members_text numbers text rows first count
      unfolding type_lines_text
      more-is = rw (← p, le-ltb k 8 h, a, b)

      pub more_room : {o o₁ : Bytes} {at i : ℕ} → first_read rows t + total_read rows t < word_values
          → at + length (type_lines_text numbers text rows t) ≤ length o → Wrote o at (type_text numbers rows t) o₁ i
          → (first + count < word_values) × (i + length (members_text numbers text rows first count) ≤ length o₁)
      more_room l r d = (rw (a, b) l, room-left (members_text numbers text rows first count) d (rw more-is at r))

      pub more-wrote : {o o₁ o₂ : Bytes} {at i j : ℕ} → Wrote o at (type_text numbers rows t) o₁ i
          → Wrote o₁ i (members_text numbers text rows first count) o₂ j → Wrote o at (type_lines_text numbers text rows t) o₂ j
      more-wrote d e = wrote_as more-is refl (then-wrote d e)
