-- Laws of writing (specs/Written.antt): what is written and what is still to be, and one write after another.
use mathlib.Core.Path.{◌≡◌, refl, sym, ap, ◌∙◌}
use mathlib.Core.List.{[], ◌∷◌, ◌++◌}
use Prim.Native.Nat.{ℕ, zero, suc, ◌+◌, ◌-◌, ◌/◌, ◌%◌, ◌≤◌, ◌<◌}
use native.Mathlib.Numerals.{add-one}
use native.Mathlib.Nat.{add-zero, not-suc-le-zero}
use native.Mathlib.Omega.{arith}
use lib.ListN.{length, get_or, drop, take, set, drop_of_length-le, length-append, length-drop, length-set}
use lib.Seq.{drop-cons, sets-eq, length-sets, get_or-set_same, drop-set-lt, take_all}
use Rattle.objects.specs.Lists.{Bytes}
use Rattle.text.specs.Bytes.{digits_on}
use Rattle.rules.specs.Asked.{say, written as written_answer}
use Rattle.print.specs.Written.{written, Wrote}
use Rattle.print.proofs.DecimalLaws.{digits-one, digits_more, digits-none}

-- ---- the buffer

pub written-length : (out : Bytes) (at : ℕ) (w : Bytes) → length (written out at w) ≡ length out
unfolding written
written-length out at w = length-sets out at w

pub written-nothing : (out : Bytes) (at : ℕ) → written out at [] ≡ out
unfolding written
written-nothing out at = refl

pub written_byte : (out : Bytes) (at b : ℕ) (w : Bytes) → written out at (b ∷ w) ≡ written (set out at b) (at + 1) w
unfolding written
written_byte out at b w = rw (add-one at) refl

-- one text after another
pub written-more : (out : Bytes) (at : ℕ) (a b : Bytes) → written (written out at a) (at + length a) b ≡ written out at (a ++ b)
unfolding written
written-more out at [] b = rw add-zero refl
written-more out at (x ∷ a) b =
    let e : at + suc (length a) ≡ suc at + length a = omega arith in
    rw e (written-more (set out at x) (suc at) a b)

-- all else is unchanged
pub written-parts : (out : Bytes) (at : ℕ) (w : Bytes) → at + length w ≤ length out → written out at w ≡ take at out ++ w ++ drop (at + length w) out
unfolding written
written-parts out at w h = sets-eq w out at h

pub written-front : (out w : Bytes) → length w ≤ length out → written out 0 w ≡ w ++ drop (length w) out
written-front out w h = let e : 0 + length w ≡ length w = omega arith in written-parts out 0 w (omega arith) ∙ ap (λ n. w ++ drop n out) e

-- "An answer fills the front of the answer buffer and the rest is unchanged"
pub written-answer : (out w : Bytes) → length w ≤ length out → written out 0 w ≡ written_answer (say w) out
unfolding written_answer
written-answer out w h = written-front out w h

-- ---- a text copied byte by byte

drop_at : (s : Bytes) (i : ℕ) → i < length s → drop i s ≡ get_or s i 0 ∷ drop (i + 1) s
drop_at s i h = rw (add-one i) (drop-cons s i 0 h)

pub written_next : (out : Bytes) (i : ℕ) (w : Bytes) (j : ℕ) → j < length w
    → written out i (drop j w) ≡ written (set out i (get_or w j 0)) (i + 1) (drop (j + 1) w)
written_next out i w j h = ap (written out i) (drop_at w j h) ∙ written_byte out i (get_or w j 0) (drop (j + 1) w)

-- where byte j goes to the place j behind the first
pub written_on : (out : Bytes) (at : ℕ) (w : Bytes) (j : ℕ) → j < length w
    → written out (at + j) (drop j w) ≡ written (set out (at + j) (get_or w j 0)) (at + (j + 1)) (drop (j + 1) w)
written_on out at w j h =
    let behind : at + j + 1 ≡ at + (j + 1) = omega arith in
    written_next out (at + j) w j h ∙ ap (λ n. written (set out (at + j) (get_or w j 0)) n (drop (j + 1) w)) behind

pub written-end : (out : Bytes) (i : ℕ) (w : Bytes) (j : ℕ) → length w ≤ j → written out i (drop j w) ≡ out
written-end out i w j h = ap (written out i) (drop_of_length-le w h) ∙ written-nothing out i

-- ---- writes

pub wrote-length : {out w out' : Bytes} {at r : ℕ} → Wrote out at w out' r → length out' ≡ length out
wrote-length {out} {w} {at = at} d = ap length d.text ∙ written-length out at w

-- two writes one after the other are one of the joined bytes
pub then-wrote : {o a o₁ b o₂ : Bytes} {at r₁ r₂ : ℕ} → Wrote o at a o₁ r₁ → Wrote o₁ r₁ b o₂ r₂ → Wrote o at (a ++ b) o₂ r₂
then-wrote {o} {a} {o₁} {b} {o₂} {at} d e = record {
  past = simp length-append (omega (arith, d.past, e.past));
  text = e.text ∙ rw (d.past, d.text) (written-more o at a b);
}

-- nothing to write
pub wrote_nothing : (out : Bytes) (at : ℕ) → Wrote out at [] out at
wrote_nothing out at = record { past = omega arith; text = sym (written-nothing out at) }

-- one byte, then the rest
pub byte-wrote : {out w out' : Bytes} {at b r : ℕ} → Wrote (set out at b) (at + 1) w out' r → Wrote out at (b ∷ w) out' r
byte-wrote {out} {w} {at = at} {b = b} d = record { past = omega (arith, d.past); text = d.text ∙ sym (written_byte out at b w) }

-- the same write, in other words
pub wrote_as : {o out a w last : Bytes} {at r : ℕ} → a ≡ w → out ≡ o → Wrote out at w last r → Wrote o at a last r
wrote_as p q e = record { past = e.past ∙ (cc); text = e.text ∙ (cc) }

-- room for the same bytes, in other words
pub room_as : {o out a w : Bytes} (at : ℕ) → a ≡ w → out ≡ o → at + length a ≤ length o → at + length w ≤ length out
room_as at p q h = omega (arith, ap length p, ap length q, h)

-- ---- digits fill an array from its end: i places are free

drop-set : (l : Bytes) (i g : ℕ) → i < length l → drop i (set l i g) ≡ g ∷ drop (i + 1) l
drop-set l i g h =
    let h' : i < length (set l i g) = rw length-set h in
    let k : i < i + 1 = omega arith in
    rw (drop_at (set l i g) i h', get_or-set_same l i g 0 h, drop-set-lt (i + 1) l i g k) refl

pub digits_last : (i rest : ℕ) (text : Bytes) {g : ℕ} → 0 < i → i ≤ length text → rest < 10 → g ≡ 48 + rest
    → digits_on i rest (drop i text) ≡ drop (i - 1) (set text (i - 1) g)
digits_last zero rest text h l t e = absurd (not-suc-le-zero h)
digits_last (suc k) rest text {g} h l t e =
    let z : suc k - 1 ≡ k = omega arith in
    rw (z, digits-one k rest (drop (suc k) text) t, drop-set text k g l, e, add-one k) refl

pub digits-next : (i rest : ℕ) (text : Bytes) {g : ℕ} → 0 < i → i ≤ length text → 10 ≤ rest → g ≡ 48 + rest % 10
    → digits_on i rest (drop i text) ≡ digits_on (i - 1) (rest / 10) (drop (i - 1) (set text (i - 1) g))
digits-next zero rest text h l t e = absurd (not-suc-le-zero h)
digits-next (suc k) rest text {g} h l t e =
    let z : suc k - 1 ≡ k = omega arith in
    rw (z, digits_more k rest (drop (suc k) text) t, drop-set text k g l, e, add-one k) refl

pub digits-full : (i rest : ℕ) (text : Bytes) → i ≤ 0 → digits_on i rest (drop i text) ≡ text
digits-full zero rest text h = digits-none rest text
digits-full (suc k) rest text h = absurd (not-suc-le-zero h)

-- the part of a text of 20 bytes from i on is its rest
part-rest : (t : Bytes) (i j g : ℕ) → length t ≡ 20 → take (20 - i) (drop i (set t j g)) ≡ drop i (set t j g)
part-rest t i j g e = take_all (20 - i) (drop i (set t j g)) (simp (length-drop, length-set) (omega arith))

pub digits-part : (i rest : ℕ) (text : Bytes) {g : ℕ} → 0 < i → i ≤ 20 → length text ≡ 20 → rest < 10 → g ≡ 48 + rest
    → digits_on i rest (drop i text) ≡ take (20 - (i - 1)) (drop (i - 1) (set text (i - 1) g))
digits-part i rest text {g} h l e t q = digits_last i rest text h (omega arith) t q ∙ sym (part-rest text (i - 1) (i - 1) g e)
