-- Laws of single bits, and of marks that are bits (specs/Marks.antt).
use mathlib.Core.Path.{◌≡◌, refl, sym, ap, ◌∙◌}
use mathlib.Core.Bool.{true, false}
use mathlib.Core.List.{List, [], ◌∷◌}
use Prim.Native.Nat.{ℕ, zero, suc, ◌+◌, ◌*◌, ◌/◌, ◌%◌, ◌^◌, ◌<◌}
use native.Mathlib.Omega.{arith}
use native.Mathlib.Nat.{add-div_right, pow-suc}
use native.Mathlib.Numerals.{one-add}
use lib.Pow.{pow_pos, pow-lt, shr-shr}
use lib.Dec.{eqb}
use lib.ListN.{length, get_or, set}
use lib.Seq.{get_or-set_same, get_or-set_other}
use borrow.Author.Tests.{eqb-true, eqb-false, eq-eqb}
use Rattle.objects.proofs.ListLaws.{cases}
use Rattle.pair_marks.specs.Marks.{bit_at, met, meet, zeros, unmet}

bit-zero : (w : ℕ) → bit_at w zero ≡ w % 2
unfolding bit_at
bit-zero w = ap (λ (v : ℕ). v % 2) (omega arith)

two-pow : (k : ℕ) → 2 ^ suc k ≡ 2 * 2 ^ k
two-pow k = omega (arith, pow-suc 2 k)

bit-suc : (w k : ℕ) → bit_at w (suc k) ≡ bit_at (w / 2) k
unfolding bit_at
bit-suc w k = ap (λ (v : ℕ). v % 2) (ap (λ (e : ℕ). w / 2 ^ e) (sym (one-add k)) ∙ sym (shr-shr w 1 k))

bit-same : (w k : ℕ) → bit_at w k ≡ 0 → bit_at (w + 2 ^ k) k ≡ 1
unfolding bit_at
bit-same w k e = rw (add-div_right w (pow_pos k)) (omega arith)

half-more : (w k : ℕ) → (w + 2 ^ suc k) / 2 ≡ w / 2 + 2 ^ k
half-more w k = omega (arith, two-pow k)

bit-other : (w k j : ℕ) → (j ≡ k → ⊥) → bit_at w k ≡ 0 → bit_at (w + 2 ^ k) j ≡ bit_at w j
bit-other w zero zero h e = absurd (h refl)
bit-other w zero (suc j) h e =
    bit-suc (w + 2 ^ zero) j ∙ ap (λ (v : ℕ). bit_at v j) (omega (arith, bit-zero w)) ∙ sym (bit-suc w j)
bit-other w (suc k) zero h e = bit-zero (w + 2 ^ suc k) ∙ omega (arith, two-pow k) ∙ sym (bit-zero w)
bit-other w (suc k) (suc j) h e =
    bit-suc (w + 2 ^ suc k) j ∙ ap (λ (v : ℕ). bit_at v j) (half-more w k) ∙ bit-other (w / 2) k j (λ z. h (ap suc z)) (sym (bit-suc w k) ∙ e) ∙ sym (bit-suc w j)

pub bit-fits : (n w k : ℕ) → k < n → w < 2 ^ n → bit_at w k ≡ 0 → w + 2 ^ k < 2 ^ n
bit-fits zero w k h l e = absurd (omega arith)
bit-fits (suc n) w zero h l e = omega (arith, two-pow n, bit-zero w)
bit-fits (suc n) w (suc k) h l e = omega (arith, two-pow n, two-pow k, bit-fits n (w / 2) k (omega arith) (omega (arith, two-pow n)) (sym (bit-suc w k) ∙ e))

zeros-falls : (n w k : ℕ) → k < n → bit_at w k ≡ 0 → zeros n (w + 2 ^ k) + 1 ≡ zeros n w
unfolding zeros
zeros-falls zero w k h e = absurd (omega arith)
zeros-falls (suc n) w zero h e =
    let z : (w + 2 ^ zero) / 2 ≡ w / 2 = omega (arith, bit-zero w) in
    rw z (omega (arith, bit-zero w))
zeros-falls (suc n) w (suc k) h e =
    rw (half-more w k) (omega (arith, two-pow k, zeros-falls n (w / 2) k (omega arith) (sym (bit-suc w k) ∙ e)))

-- a bit_at is 0 or 1
pub bit-off : (w k : ℕ) → eqb (bit_at w k) 1 ≡ false → bit_at w k ≡ 0
unfolding bit_at
bit-off w k e = let h = eqb-false (w / 2 ^ k % 2) 1 e in omega arith

pub met-same : (l : List ℕ) (p : ℕ) → p / 32 < length l → met l p ≡ false → met (meet l p) p ≡ true
unfolding met meet
met-same l p h e = rw (get_or-set_same l (p / 32) (get_or l (p / 32) 0 + 2 ^ (p % 32)) 0 h) (eq-eqb _ _ (bit-same _ _ (bit-off _ _ e)))

pub met-other : (l : List ℕ) (p q : ℕ) → (q ≡ p → ⊥) → p / 32 < length l → met l p ≡ false → met (meet l p) q ≡ met l q
unfolding met meet
met-other l p q h hl e = cases (eqb (q / 32) (p / 32)) (λ s. one (eqb-true _ _ s)) (λ s. other (eqb-false _ _ s))
  where
    one : q / 32 ≡ p / 32 → met (meet l p) q ≡ met l q
    one s =
        rw (s, get_or-set_same l (p / 32) (get_or l (p / 32) 0 + 2 ^ (p % 32)) 0 hl)
        (ap (λ (v : ℕ). eqb v 1) (bit-other (get_or l (p / 32) 0) (p % 32) (q % 32) (λ z. h (omega arith)) (bit-off _ _ e)))

    other : (q / 32 ≡ p / 32 → ⊥) → met (meet l p) q ≡ met l q
    other s = rw (get_or-set_other l (p / 32) (q / 32) (get_or l (p / 32) 0 + 2 ^ (p % 32)) 0 s)

unmet-set : (l : List ℕ) (i k : ℕ) → k < 32 → i < length l → bit_at (get_or l i 0) k ≡ 0 → unmet (set l i (get_or l i 0 + 2 ^ k)) + 1 ≡ unmet l
unfolding unmet
unmet-set [] i k h hl e = absurd (omega arith)
unmet-set (w ∷ l) zero k h hl e = omega (arith, zeros-falls 32 w k h e)
unmet-set (w ∷ l) (suc i) k h hl e = omega (arith, unmet-set l i k h (omega arith) e)

pub unmet-falls : (l : List ℕ) (p : ℕ) → p / 32 < length l → met l p ≡ false → unmet (meet l p) + 1 ≡ unmet l
unfolding met meet
unmet-falls l p h e = unmet-set l (p / 32) (p % 32) (omega arith) h (bit-off _ _ e)

pub shl_one : (k : ℕ) → k < 32 → 1 * 2 ^ k % 4294967296 ≡ 2 ^ k
shl_one k h = omega (arith, pow-lt {i = k} {j = 32} h)

pub meet-fits : (l : List ℕ) (p : ℕ) → met l p ≡ false → get_or l (p / 32) 0 < 2 ^ 32 → get_or l (p / 32) 0 + 1 * 2 ^ (p % 32) % 4294967296 < 2 ^ 32
unfolding met
meet-fits l p e h = rw (shl_one (p % 32) (omega arith)) (bit-fits 32 (get_or l (p / 32) 0) (p % 32) (omega arith) h (bit-off _ _ e))

pub meet-is : (l : List ℕ) (p : ℕ) → set l (p / 32) (get_or l (p / 32) 0 + 1 * 2 ^ (p % 32) % 4294967296) ≡ meet l p
unfolding meet
meet-is l p = rw (shl_one (p % 32) (omega arith))
