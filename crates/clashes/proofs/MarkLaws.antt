-- Marks of names (specs/Marks.antt): bits, marks that are added, and what a name without its mark differs from.
use mathlib.Core.Path.{◌≡◌, sym, ◌∙◌}
use mathlib.Core.Bool.{Bool}
use mathlib.Core.Logic.{◌≢◌}
use Prim.Native.Nat.{ℕ, ◌+◌, ◌*◌, ◌/◌, ◌%◌, ◌^◌, ◌<◌, ◌≤◌, max}
use native.Mathlib.Nat.{max-le, le-max_left}
use native.Mathlib.Numerals.{add-one}
use native.Mathlib.Omega.{arith}
use lib.Bits.{bit_or, or_step, or_comm, or_shr}
use lib.Dec.{eqb}
use lib.ListN.{length, set}
use lib.Pow.{shl-shr, shl_exact}
use borrow.Author.Tests.{eqb-true, eqb-false}
use Rattle.objects.specs.Lists.{Bytes}
use Rattle.objects.specs.Table.{obj_key}
use Rattle.objects.specs.Rows.{Words, word_at, member_at, members_from}
use Rattle.objects.proofs.ListLaws.{cases}
use Rattle.objects.proofs.PartLaws.{all_snoc}
use Rattle.objects.proofs.RowLaws.{members-more}
use Rattle.objects.proofs.Stores.{word-put, word_kept}
use Rattle.text.specs.Hash.{hash_from}
use Rattle.clashes.specs.Marks.{place_of, high_place, low_place, bit_at, MarkedAt, Marked, Grows, AllMarked, Met, Noted}

-- ---- bits

or_left : (a b : ℕ) → a % 2 ≢ 0 → bit_or a b % 2 ≢ 0
or_left a b n z =
    let l = le-max_left (a % 2) (b % 2) in
    let u : max (a % 2) (b % 2) ≤ 1 = max-le (omega arith) (omega arith) in
    let s = or_step a b in
    n (omega arith)

or_right : (a b : ℕ) → b % 2 ≢ 0 → bit_or a b % 2 ≢ 0
or_right a b = rw (or_comm a b) (or_left b a)

-- what a bit of w is, it is with more bits set
bit-stays : (w v k : ℕ) → w / 2 ^ k % 2 ≢ 0 → bit_or w v / 2 ^ k % 2 ≢ 0
bit-stays w v k = rw (or_shr w v k) (or_left (w / 2 ^ k) (v / 2 ^ k))

bit-here : (w k : ℕ) → bit_or w (1 * 2 ^ k) / 2 ^ k % 2 ≢ 0
bit-here w k = rw (or_shr w (1 * 2 ^ k) k, shl-shr 1 k) (or_right (w / 2 ^ k) 1 (λ z. omega arith))

-- the bit at i is set in its word
module _ (marks : Words) (i : ℕ) (h : i / 32 < length marks) {w : ℕ} (ew : w ≡ word_at marks (i / 32)) where
  abbrev more : ℕ
  more = bit_or w (1 * 2 ^ (i % 32) % 4_294_967_296)

  set-grows : Grows marks (set marks (i / 32) more)
  unfolding bit_at
  set-grows j n =
      cases (eqb (j / 32) (i / 32))
      (λ e. let q = eqb-true (j / 32) (i / 32) e in
      rw (q, word-put marks (i / 32) more h) (bit-stays w (1 * 2 ^ (i % 32) % 4_294_967_296) (j % 32) (rw (q, ← ew) at n)))
      (λ e. rw (word_kept marks (i / 32) more (j / 32) (eqb-false (j / 32) (i / 32) e)) n)

  set_here : bit_at (set marks (i / 32) more) i ≢ 0
  unfolding bit_at
  set_here = rw (word-put marks (i / 32) more h, shl_exact {a = 1} 1 (i % 32) 32 (omega arith) (omega arith)) (bit-here w (i % 32))

  pub set-adds : Grows marks (set marks (i / 32) more) × (bit_at (set marks (i / 32) more) i ≢ 0)
  set-adds = (set-grows, set_here)

-- ---- marks that are added

module _ (marks between after : Words) (p : ℕ) {a b : ℕ} (ea : a ≡ high_place p) (eb : b ≡ low_place p) where
  pub mark-adds : Grows marks between → bit_at between a ≢ 0 → Grows between after → bit_at after b ≢ 0 → Grows marks after × MarkedAt after p
  mark-adds g s f t = (λ i h. f i (g i h), (rw (← ea) (f a s), rw (← eb) t))

pub not-high : (marks : Words) (p : ℕ) {a : ℕ} → a ≡ high_place p → {x : ℕ} → x ≡ bit_at marks a → x ≡ 0 → MarkedAt marks p → ⊥
not-high marks p ea ex z m = m.0 (rw (← ea) (sym ex ∙ z))

pub not_low : (marks : Words) (p : ℕ) {a : ℕ} → a ≡ low_place p → {x : ℕ} → x ≡ bit_at marks a → x ≡ 0 → MarkedAt marks p → ⊥
not_low marks p ea ex z m = m.1 (rw (← ea) (sym ex ∙ z))

-- ---- marks that stay

pub grown-mark : (marks after : Words) → Grows marks after → (k : ℕ) (name : Bytes) → Marked marks k name → Marked after k name
unfolding Marked
grown-mark marks after g k name m = (g _ m.0, g _ m.1)

met-name : (marks after : Words) (k : ℕ) (name : Bytes) {h p : ℕ} → h ≡ hash_from 0 name → p ≡ place_of k h → {r : Bool} → Met marks p after r → Marked after k name
unfolding Marked
met-name marks after k name eh ep m = rw (← eh, ← ep) m.here

-- ---- runs of members

module _ (text : Bytes) (rows : Words) (k first : ℕ) where
  pub noted-none : (marks : Words) → Noted marks k (members_from text rows first 0) marks
  unfolding members_from
  noted-none marks = record { grows = λ i h. h; all = λ x j. absurd j }

  all_more : (marks after : Words) (i : ℕ) → Grows marks after → AllMarked marks k (members_from text rows first i) → Marked after k (member_at text rows (obj_key (first + i))).name
      → AllMarked after k (members_from text rows first (i + 1))
  all_more marks after i g a n =
      rw (add-one i, members-more text rows first i)
      (all_snoc (λ x. Marked after k x.name) (members_from text rows first i) (member_at text rows (obj_key (first + i))) (λ x j. grown-mark marks after g k x.name (a x j)) n)

  module _ (i : ℕ) {h p : ℕ} (eh : h ≡ hash_from 0 (member_at text rows (obj_key (first + i))).name) (ep : p ≡ place_of k h) where
    pub all-on : (marks after : Words) {r : Bool} → Met marks p after r → AllMarked marks k (members_from text rows first i) → AllMarked after k (members_from text rows first (i + 1))
    all-on marks after m a = all_more marks after i m.grows a (met-name marks after k _ eh ep m)

    pub noted-on : (marks₀ marks after : Words) {r : Bool} → Met marks p after r → Noted marks₀ k (members_from text rows first i) marks → Noted marks₀ k (members_from text rows first (i + 1)) after
    noted-on marks₀ marks after m n = record { grows = λ j h. m.grows j (n.grows j h); all = all-on marks after m n.all }

  pub noted-end : (marks after : Words) {i n : ℕ} → i ≤ n → n ≤ i → Noted marks k (members_from text rows first i) after → Noted marks k (members_from text rows first n) after
  noted-end marks after {i = i} {n = n} l h e = let z : n ≡ i = omega arith in rw z e
