-- A part of a text, byte by byte: what stands at a place, what is left behind it, and where the part ends.
use mathlib.Core.Path.{◌≡◌, refl, sym, ap, ◌∙◌}
use mathlib.Core.List.{List, [], ◌∷◌}
use Prim.Native.Nat.{ℕ, min, zero, suc, ◌+◌, ◌-◌, ◌≤◌, ◌<◌}
use native.Mathlib.Numerals.{add-one}
use native.Mathlib.Nat.{not-suc-le-zero}
use native.Mathlib.Omega.{arith}
use lib.Dec.{leb, ltb}
use lib.ListN.{length, get_or, take, drop, drop_of_length-le, length-take}
use lib.Seq.{drop-cons, drop-drop, take-take, take-nil}
use borrow.Author.Tests.{leb-true, leb-false, ltb-true, ltb-false}
use Rattle.objects.specs.Lists.{Bytes}
use Rattle.objects.proofs.ListLaws.{cases}
use Rattle.text.specs.Cursors.{part}
use Rattle.text.specs.Runs.{stop_at, byte_in}

pub take-suc-cons : {A : Type 0} (n : ℕ) (x : A) (l : List A) → 0 < n → take n (x ∷ l) ≡ x ∷ take (n - 1) l
take-suc-cons zero x l h = absurd (not-suc-le-zero h)
take-suc-cons (suc n) x l h = let z : suc n - 1 ≡ n = omega arith in rw z

pub drop-take : {A : Type 0} (n m : ℕ) (l : List A) → drop n (take m l) ≡ take (m - n) (drop n l)
drop-take zero m l = let z : m - 0 ≡ m = omega arith in rw z
drop-take (suc n) zero l = let z : 0 - suc n ≡ 0 = omega arith in rw z
drop-take (suc n) (suc m) [] = sym (take-nil (suc m - suc n))
drop-take (suc n) (suc m) (x ∷ l) = let z : suc m - suc n ≡ m - n = omega arith in rw z (drop-take n m l)

pub drop-short : {A : Type 0} (n : ℕ) (l : List A) → drop n l ≡ [] → length l ≤ n
drop-short zero [] e = omega arith
drop-short zero (x ∷ l) e = let z : ◌≡◌ {A = ℕ} 0 1 = cc in omega arith
drop-short (suc n) [] e = omega arith
drop-short (suc n) (x ∷ l) e = let h = drop-short n l e in omega arith

pub drop_at : (l : Bytes) (j : ℕ) → j < length l → drop j l ≡ get_or l j 0 ∷ drop (j + 1) l
drop_at l j h = rw (add-one, drop-cons l j 0)

-- ---- the end within the text

pub stop-in : (s : Bytes) (i end : ℕ) {stop : ℕ} → stop ≡ stop_at s end → i < stop → (i < end) × (i < length s)
unfolding stop_at
stop-in s i end p h =
    cases (leb end (length s))
    (λ e. let z : i < end = rw (p, e) at h in let l = leb-true end (length s) e in (z, omega arith))
    (λ e. let z : i < length s = rw (p, e) at h in let l = leb-false end (length s) e in (omega arith, z))

pub part_none : (s : Bytes) (i end : ℕ) {stop : ℕ} → stop ≡ stop_at s end → stop ≤ i → part s i end ≡ []
unfolding stop_at part
part_none s i end p h =
    cases (leb end (length s))
    (λ e. let z : end ≤ i = rw (p, e) at h in let y : end - i ≡ 0 = omega arith in rw y)
    (λ e. let z : length s ≤ i = rw (p, e) at h in rw (drop_of_length-le s z) (take-nil (end - i)))

pub part-next : (s : Bytes) (i end : ℕ) {stop : ℕ} → stop ≡ stop_at s end → i < stop → part s i end ≡ get_or s i 0 ∷ part s (i + 1) end
unfolding part
part-next s i end p h =
    let r = stop-in s i end p h in
    let n : 0 < end - i = omega arith in
    let m : end - i - 1 ≡ end - (i + 1) = omega arith in
    ap (take (end - i)) (drop_at s i r.1) ∙ take-suc-cons (end - i) _ _ n ∙ ap (λ k. get_or s i 0 ∷ take k (drop (i + 1) s)) m

-- ---- a place within a part

module _ (s : Bytes) (at end n : ℕ) where
  pub part-drop : drop n (part s at end) ≡ part s (at + n) end
  unfolding part
  part-drop =
      let z : end - at - n ≡ end - (at + n) = omega arith in
      drop-take n (end - at) (drop at s) ∙ rw (z, drop-drop n at s)

  pub part-take : n ≤ length (part s at end) → part s at (at + n) ≡ take n (part s at end)
  unfolding part
  part-take h =
      let k : length (take (end - at) (drop at s)) ≤ end - at = rw length-take (omega arith) in
      let z : at + n - at ≡ n = omega arith in
      rw z (sym (take-take n (end - at) (drop at s) (omega arith)))

-- ---- the byte at a place

pub byte-is : (s : Bytes) (at end : ℕ) {stop : ℕ} → stop ≡ stop_at s end → at < stop → byte_in s at end ≡ get_or s at 0
unfolding byte_in
byte-is s at end p h = rw (part-next s at end p h)

pub byte-none : (s : Bytes) (at end : ℕ) {stop : ℕ} → stop ≡ stop_at s end → stop ≤ at → byte_in s at end ≡ 256
unfolding byte_in
byte-none s at end p h = rw (part_none s at end p h)

-- a byte below 256 stands there
module _ (s : Bytes) (at end : ℕ) {b : ℕ} (pb : b ≡ byte_in s at end) (h : b < 256) where
  byte-in : at < stop_at s end
  byte-in =
      cases (ltb at (stop_at s end))
      (λ e. ltb-true at (stop_at s end) e)
      (λ e. let z = byte-none s at end refl (ltb-false at (stop_at s end) e) in omega arith)

  pub byte-there : b ≡ get_or s at 0
  byte-there = pb ∙ byte-is s at end refl byte-in

  pub byte-within : at < length s
  byte-within = (stop-in s at end refl byte-in).1

  pub byte_next : part s at end ≡ b ∷ part s (at + 1) end
  byte_next = part-next s at end refl byte-in ∙ ap (λ x. x ∷ part s (at + 1) end) (sym (byte-is s at end refl byte-in) ∙ sym pb)

-- the end within the text
pub stop-least : (s : Bytes) (end : ℕ) → min end (length s) ≡ stop_at s end
unfolding stop_at
stop-least s end =
    cases (leb end (length s))
    (λ e. let h = leb-true end (length s) e in rw e (omega arith))
    (λ e. let h = leb-false end (length s) e in rw e (omega arith))
