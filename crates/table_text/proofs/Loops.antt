-- Pieces written one after the other (specs/Rows.antt): what is written and what is still to be written is always the whole.
use mathlib.Core.Path.{◌≡◌, sym, ap, ◌∙◌}
use mathlib.Core.List.{[], ◌++◌}
use Prim.Native.Nat.{ℕ, suc, ◌+◌, ◌-◌, ◌≤◌, ◌<◌}
use native.Mathlib.Omega.{arith}
use lib.ListN.{length, length-append}
use Rattle.objects.specs.Lists.{Bytes}
use Rattle.print.specs.Written.{written, Wrote}
use Rattle.print.proofs.WrittenLaws.{written-more, written-nothing}
use Rattle.table_text.specs.Rows.{pieces_from}

module _ (f : ℕ → Bytes) (first count : ℕ) where
  -- what is left from piece j on
  pub left_from : ℕ → Bytes
  left_from j = pieces_from f (first + j) (count - j)

  left-all : left_from 0 ≡ pieces_from f first count
  unfolding left_from
  left-all = let a : first + 0 ≡ first = omega arith in let b : count - 0 ≡ count = omega arith in rw (a, b)

  module _ (j : ℕ) (h : j < count) where
    left-next : left_from j ≡ f (first + j) ++ left_from (j + 1)
    unfolding left_from pieces_from
    left-next =
        let a : count - j ≡ suc (count - (j + 1)) = omega arith in
        let b : first + (j + 1) ≡ suc (first + j) = omega arith in
        rw (a, b)

    pub next-room : (o : Bytes) (at i : ℕ) (out : Bytes) → i + length (left_from j) ≡ at + length (left_from 0) → at + length (pieces_from f first count) ≤ length o → length out ≡ length o
        → i + length (f (first + j)) ≤ length out
    next-room o at i out e l s = omega (arith, e, l, s, ap length left-all, ap length left-next, length-append (f (first + j)) (left_from (j + 1)))

    pub next-wrote : {out out' : Bytes} {i r : ℕ} → Wrote out i (f (first + j)) out' r → written out i (left_from j) ≡ written out' r (left_from (j + 1))
    next-wrote {out} {out'} {i} {r} d = ap (written out i) left-next ∙ sym (rw (d.past, d.text) (written-more out i (f (first + j)) (left_from (j + 1))))

    pub next_place : {out out' : Bytes} {i r : ℕ} (n : ℕ) → Wrote out i (f (first + j)) out' r → i + length (left_from j) ≡ n → r + length (left_from (j + 1)) ≡ n
    next_place n d e = omega (arith, d.past, e, ap length left-next, length-append (f (first + j)) (left_from (j + 1)))

  pub all-wrote : (o : Bytes) (at : ℕ) (out : Bytes) (i j : ℕ) → count ≤ j → written o at (left_from 0) ≡ written out i (left_from j) → i + length (left_from j) ≡ at + length (left_from 0)
      → Wrote o at (pieces_from f first count) out i
  unfolding left_from pieces_from
  all-wrote o at out i j h e l =
      let z : count - j ≡ 0 = omega arith in
      let none : left_from j ≡ [] = rw z in
      record {
        past = omega (arith, l, ap length none, ap length left-all);
        text = sym (ap (written o at) (sym left-all) ∙ e ∙ ap (written out i) none ∙ written-nothing out i);
      }
