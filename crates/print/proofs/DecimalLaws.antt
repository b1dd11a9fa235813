-- Laws of decimal digits (crate text, specs/Bytes.antt): how many there are, that they are a numeral, and that they read back as the number.
use mathlib.Core.Path.{◌≡◌, refl, ap, ◌∙◌}
use mathlib.Core.Bool.{true, false, not, ◌&&◌, ◌||◌}
use mathlib.Core.List.{[], ◌∷◌}
use mathlib.Core.Option.{some}
use Prim.Native.Nat.{ℕ, zero, suc, ◌+◌, ◌*◌, ◌-◌, ◌/◌, ◌%◌, ◌^◌, ◌≤◌, ◌<◌}
use native.Mathlib.Nat.{pow-suc}
use native.Mathlib.Omega.{arith}
use lib.Dec.{ltb, leb, eqb}
use lib.ListN.{length}
use borrow.Author.Tests.{lt-ltb, le-ltb, le-leb, ne_eqb, ltb-true, ltb-false}
use Rattle.objects.specs.Bounds.{refusal_unit}
use Rattle.objects.specs.Lists.{Bytes, every}
use Rattle.objects.proofs.ListLaws.{cases, or-true}
use Rattle.text.specs.Bytes.{is_digit, first_is, value_from, is_numeral, number, digits_on, decimal}

-- ---- one step

pub digits-one : (k n : ℕ) (acc : Bytes) → n < 10 → digits_on (suc k) n acc ≡ (48 + n) ∷ acc
unfolding digits_on
digits-one k n acc h = rw (digits_on, lt-ltb n 10 h)

pub digits_more : (k n : ℕ) (acc : Bytes) → 10 ≤ n → digits_on (suc k) n acc ≡ digits_on k (n / 10) ((48 + n % 10) ∷ acc)
unfolding digits_on
digits_more k n acc h = rw (digits_on, le-ltb n 10 h)

pub digits-none : (n : ℕ) (acc : Bytes) → digits_on zero n acc ≡ acc
unfolding digits_on
digits-none n acc = refl

-- one digit, or more
by_size {ℓ} : {C : Type ℓ} (n : ℕ) → (n < 10 → C) → (10 ≤ n → C) → C
by_size n one more = cases (ltb n 10) (λ e. one (ltb-true n 10 e)) (λ e. more (ltb-false n 10 e))

-- a digit less
tenth : (n k : ℕ) → n < 10 ^ suc k → n / 10 < 10 ^ k
tenth n k h = omega (arith, h, pow-suc 10 k)

-- two digits at least
not-few : (n : ℕ) → n < 10 ^ 1 → 10 ≤ n → ⊥
not-few n h t = omega (arith, h, t)

-- ---- how many

-- the last digit, put before acc
abbrev next : ℕ → Bytes → Bytes
next n acc = (48 + n % 10) ∷ acc

pub digits-few : (k j n : ℕ) (acc : Bytes) → n < 10 ^ suc j → length (digits_on k n acc) ≤ suc j + length acc
digits-few zero j n acc h = rw (digits-none n acc) (omega arith)
digits-few (suc k) zero n acc h = by_size n (λ t. rw (digits-one k n acc t) (omega arith)) (λ t. absurd (not-few n h t))
digits-few (suc k) (suc j) n acc h =
    let less = digits-few k j (n / 10) (next n acc) (tenth n (suc j) h) in
    by_size n (λ t. rw (digits-one k n acc t) (omega arith)) (λ t. rw (digits_more k n acc t) (omega (arith, less)))

-- at most as many as there may be
pub digits-short : (k n : ℕ) (acc : Bytes) → length (digits_on k n acc) ≤ k + length acc
digits-short zero n acc = rw (digits-none n acc) (omega arith)
digits-short (suc k) n acc =
    let less = digits-short k (n / 10) (next n acc) in
    by_size n (λ t. rw (digits-one k n acc t) (omega arith)) (λ t. rw (digits_more k n acc t) (omega (arith, less)))

digits-kept : (k n : ℕ) (acc : Bytes) → length acc ≤ length (digits_on k n acc)
digits-kept zero n acc = rw (digits-none n acc) (omega arith)
digits-kept (suc k) n acc =
    let less = digits-kept k (n / 10) (next n acc) in
    by_size n (λ t. rw (digits-one k n acc t) (omega arith)) (λ t. rw (digits_more k n acc t) (omega (arith, less)))

-- one at least
pub digits-some : (k n : ℕ) (acc : Bytes) → length acc < length (digits_on (suc k) n acc)
digits-some k n acc =
    let less = digits-kept k (n / 10) (next n acc) in
    by_size n (λ t. rw (digits-one k n acc t) (omega arith)) (λ t. rw (digits_more k n acc t) (omega (arith, less)))

-- what stands behind adds its length
pub digits-length : (k n : ℕ) (a b : Bytes) → length (digits_on k n a) + length b ≡ length (digits_on k n b) + length a
digits-length zero n a b = rw (digits-none n a, digits-none n b) (omega arith)
digits-length (suc k) n a b =
    let less = digits-length k (n / 10) (next n a) (next n b) in
    by_size n
    (λ t. rw (digits-one k n a t, digits-one k n b t) (omega arith))
    (λ t. rw (digits_more k n a t, digits_more k n b t) (omega (arith, less)))

-- room for one digit more changes nothing
pub digits-enough : (k n : ℕ) (acc : Bytes) → n < 10 ^ suc k → digits_on (suc (suc k)) n acc ≡ digits_on (suc k) n acc
digits-enough zero n acc h = by_size n (λ t. rw (digits-one 1 n acc t, digits-one 0 n acc t) refl) (λ t. absurd (not-few n h t))
digits-enough (suc k) n acc h =
    let less = digits-enough k (n / 10) (next n acc) (tenth n (suc k) h) in
    by_size n
    (λ t. rw (digits-one (suc (suc k)) n acc t, digits-one (suc k) n acc t) refl)
    (λ t. rw (digits_more (suc (suc k)) n acc t, digits_more (suc k) n acc t) less)

-- ---- what they say

pub value_on : (v b : ℕ) (s : Bytes) → value_from v (b ∷ s) ≡ value_from (v * 10 + (b - 48)) s
unfolding value_from
value_on v b s = refl

one_value : (k n : ℕ) (acc : Bytes) → n < 10 → value_from 0 (digits_on (suc k) n acc) ≡ value_from n acc
one_value k n acc t =
    let e : 0 * 10 + (48 + n - 48) ≡ n = omega arith in
    ap (value_from 0) (digits-one k n acc t) ∙ value_on 0 (48 + n) acc ∙ ap (λ v. value_from v acc) e

-- the digits read back as the number
pub digits_value : (k n : ℕ) (acc : Bytes) → n < 10 ^ suc k → value_from 0 (digits_on (suc k) n acc) ≡ value_from n acc
digits_value zero n acc h = by_size n (λ t. one_value 0 n acc t) (λ t. absurd (not-few n h t))
digits_value (suc k) n acc h =
    let less = digits_value k (n / 10) (next n acc) (tenth n (suc k) h) in
    let e : n / 10 * 10 + (48 + n % 10 - 48) ≡ n = omega arith in
    by_size n
    (λ t. one_value (suc k) n acc t)
    (λ t. ap (value_from 0) (digits_more (suc k) n acc t) ∙ less ∙ value_on (n / 10) (48 + n % 10) acc ∙ ap (λ v. value_from v acc) e)

every-digit : (d : ℕ) (acc : Bytes) → d < 10 → every is_digit ((48 + d) ∷ acc) ≡ every is_digit acc
every-digit d acc h = rw (le-leb 48 (48 + d) (omega arith), le-leb (48 + d) 57 (omega arith)) refl

pub digits-digits : (k n : ℕ) (acc : Bytes) → every is_digit (digits_on k n acc) ≡ every is_digit acc
digits-digits zero n acc = ap (every is_digit) (digits-none n acc)
digits-digits (suc k) n acc =
    let less = digits-digits k (n / 10) (next n acc) in
    by_size n
    (λ t. ap (every is_digit) (digits-one k n acc t) ∙ every-digit n acc t)
    (λ t. ap (every is_digit) (digits_more k n acc t) ∙ less ∙ every-digit (n % 10) acc (omega arith))

one-first : (k n : ℕ) (acc : Bytes) → 0 < n → n < 10 → first_is (eqb 48) (digits_on (suc k) n acc) ≡ false
one-first k n acc p t = rw (digits-one k n acc t) (ne_eqb 48 (48 + n) (λ e. omega arith))

-- no leading zero
pub digits-first : (k n : ℕ) (acc : Bytes) → 0 < n → n < 10 ^ suc k → first_is (eqb 48) (digits_on (suc k) n acc) ≡ false
digits-first zero n acc p h = by_size n (λ t. one-first 0 n acc p t) (λ t. absurd (not-few n h t))
digits-first (suc k) n acc p h =
    by_size n
    (λ t. one-first (suc k) n acc p t)
    (λ t. ap (first_is (eqb 48)) (digits_more (suc k) n acc t) ∙ digits-first k (n / 10) (next n acc) (omega arith) (tenth n (suc k) h))

numeral : (s : Bytes) → 0 < length s → every is_digit s ≡ true → eqb (length s) 1 || not (first_is (eqb 48) s) ≡ true → is_numeral s ≡ true
unfolding is_numeral
numeral s h d f = rw (ne_eqb (length s) 0 (λ e. omega arith), d, f) refl

pub digits-numeral : (k n : ℕ) → n < 10 ^ suc k → is_numeral (digits_on (suc k) n []) ≡ true
digits-numeral k n h =
    numeral (digits_on (suc k) n []) (digits-some k n []) (digits-digits (suc k) n [])
    (by_size n
    (λ t. rw (digits-one k n [] t) refl)
    (λ t. rw (digits-first k n [] (omega arith) h) (or-true (eqb (length (digits_on (suc k) n [])) 1))))

-- ---- whole numbers

-- a number below 2 ^ 32 has at most 20 digits
small : (n : ℕ) → n < 2 ^ 32 → n < 10 ^ 20
small n h = omega (arith, h)

-- the digits are those of the number
pub decimal-value : (n : ℕ) → n < 2 ^ 32 → value_from 0 (decimal n) ≡ n
unfolding decimal value_from
decimal-value n h = digits_value 19 n [] (small n h)

pub decimal-numeral : (n : ℕ) → n < 2 ^ 32 → is_numeral (decimal n) ≡ true
unfolding decimal
decimal-numeral n h = digits-numeral 19 n (small n h)

-- what is printed is read back
pub decimal-number : (max n : ℕ) → n ≤ max → n < 2 ^ 32 → number max (decimal n) ≡ some n
unfolding number
decimal-number max n m h =
    let e : is_numeral (decimal n) && leb (value_from 0 (decimal n)) max ≡ true = rw (decimal-numeral n h, decimal-value n h) (le-leb n max m) in
    rw (number, e) (ap some (decimal-value n h))

pub decimal-few : (j n : ℕ) → n < 10 ^ suc j → length (decimal n) ≤ suc j
unfolding decimal
decimal-few j n h = omega (arith, digits-few 20 j n [] h)

pub decimal-any : (n : ℕ) → length (decimal n) ≤ 20
unfolding decimal
decimal-any n = digits-short 20 n []

pub decimal-short : (n : ℕ) → n < 2 ^ 32 → length (decimal n) ≤ 10
decimal-short n h = decimal-few 9 n (omega (arith, h))

-- a line of a text, a member, a place
pub decimal-shorter : (n : ℕ) → n < refusal_unit → length (decimal n) ≤ 5
decimal-shorter n h = decimal-few 4 n (omega (arith, h))

pub decimal-one : (n : ℕ) → n < 10 → length (decimal n) ≡ 1
unfolding decimal
decimal-one n h = ap length (digits-one 19 n [] h)

-- one digit more than the tenth part
pub decimal-more : (n : ℕ) → n < 2 ^ 32 → 10 ≤ n → length (decimal n) ≡ length (decimal (n / 10)) + 1
unfolding decimal
decimal-more n h t =
    let d = digits_more 19 n [] t in
    let e = digits-length 19 (n / 10) (next n []) [] in
    let f = digits-enough 18 (n / 10) [] (tenth n 19 (small n h)) in
    omega (arith, ap length d, e, ap length f)
