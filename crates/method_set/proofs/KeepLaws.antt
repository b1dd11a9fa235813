-- What the functions of M read and leave: flags, the names that are kept in their order, the numbers of a line, and the sets that are empty at once.
use mathlib.Core.Path.{◌≡◌, refl, sym, ap, ap₂, ◌∙◌}
use mathlib.Core.Bool.{Bool, true, false, cond, not}
use mathlib.Core.List.{List, [], ◌∷◌, ◌++◌, append-nil}
use mathlib.Core.Logic.{◌≢◌}
use Prim.Native.Nat.{ℕ, suc, ◌+◌, ◌-◌, ◌≤◌, ◌<◌}
use native.Mathlib.Omega.{arith}
use native.Mathlib.Numerals.{add-one}
use lib.ListN.{length, get_or, take, drop, set, length-set, length-take, length-drop}
use lib.Seq.{get_or-take, take-suc, take-suc-set, take-append-le, drop-cons, drop-set-lt}
use borrow.Rule.Slice.PartMut.{mid_of, post_of, put_mid, same_len_mid}
use borrow.Author.Tests.{ne_eqb}
use mir.Val.{bool_byte}
use Rattle.objects.specs.Bounds.{max_places}
use Rattle.objects.specs.Lists.{keep, In}
use Rattle.objects.proofs.ListLaws.{keep_append}
use Rattle.objects.proofs.PartLaws.{get_or-In}
use Rattle.objects.specs.declared.TypeKey.{TypeKey}
use Rattle.objects.specs.Table.{obj_key, bit}
use Rattle.objects.specs.Rows.{Words}
use Rattle.objects.specs.Types.{pointer_read, bare_read, named_pointer_read, iface_read, ptr_read}
use Rattle.multiples.specs.Records.{Record}
use Rattle.walk_rows.specs.Records.{row_of, level_of}
use Rattle.walk_rows.specs.State.{Written}
use Rattle.first_hits.specs.declared.FirstHit.{FirstHit}
use Rattle.first_hits.specs.Hits.{hit_row, hit_place, hit_hidden}
use Rattle.method_set.specs.Sets.{empty_read, flag_read, in_set, sel_at}

-- ---- the flag

-- as a word
pub byte-bit : (b : Bool) → bool_byte b ≡ bit b
byte-bit true = refl
byte-bit false = refl

module _ (rows : Words) (walk : List Record) (i : ℕ) {b : Bool} (e : b ≡ (row_of walk i).flag) where
  pub flag-removed : b ≡ true → true ≡ flag_read rows walk i
  unfolding flag_read
  flag-removed y = rw (← e, y)

  pub flag-under : b ≡ false → {u : TypeKey} → u ≡ (row_of walk i).type → {r : Bool} → r ≡ iface_read rows u → r ≡ flag_read rows walk i
  unfolding flag_read
  flag-under n t r = rw (← e, n, ← t, r)

-- ---- one name

twice : (b : Bool) → not (not b) ≡ b
twice true = refl
twice false = refl

module _ (rows : Words) (walk : List Record) (hits : List FirstHit) (k : ℕ) where
  pub in-hidden : hit_hidden hits k ≡ 1 → false ≡ in_set rows walk hits k
  unfolding in_set
  in-hidden e = rw e

  module _ (shown : hit_hidden hits k ≢ 1) {p : Bool} (ptr : p ≡ ptr_read rows (obj_key k)) where
    pub in-pointer : p ≡ true → {r : Bool} → r ≡ flag_read rows walk (hit_row hits k) → r ≡ in_set rows walk hits k
    unfolding in_set
    in-pointer e {r} f = rw (ne_eqb (hit_hidden hits k) 1 shown, ← ptr, e, ← f) (sym (twice r))

    pub in-value : p ≡ false → true ≡ in_set rows walk hits k
    unfolding in_set
    in-value e = rw (ne_eqb (hit_hidden hits k) 1 shown, ← ptr, e)

-- ---- the names that are kept

-- Of the first i of the names before, those that pass the test are the first r; the names from i on are as they were.
pub record Keeping (p : ℕ → Bool) (before names : Words) (r i : ℕ) : Type 0 where
  pub kept : take r names ≡ keep p (take i before)
  pub left : drop i names ≡ drop i before
  pub few : r ≤ i

pub keeping_start : (p : ℕ → Bool) (before : Words) → Keeping p before before 0 0
keeping_start p before = record { kept = refl; left = refl; few = omega arith }

module _ (p : ℕ → Bool) (before names : Words) (r i : ℕ) (long : length names ≡ length before) (l : i < length before) (h : Keeping p before names r i) where
  next : get_or names i 0 ∷ drop (suc i) names ≡ get_or before i 0 ∷ drop (suc i) before
  next = sym (drop-cons names i 0 (omega arith)) ∙ h.left ∙ drop-cons before i 0 l

  here : get_or names i 0 ≡ get_or before i 0
  here = let e = next in cc

  rest : drop (suc i) names ≡ drop (suc i) before
  rest = let e = next in cc

  -- the name that is read is one of those before
  pub keeping-read : (n : ℕ) → i < n → In (get_or names i 0) (take n before)
  keeping-read n m = rw (here, ← get_or-take n before i 0 m) (get_or-In (take n before) i 0 (rw (length-take n before) (omega arith)))

  keep-next : keep p (take (i + 1) before) ≡ keep p (take i before) ++ cond (p (get_or before i 0)) (get_or before i 0 ∷ []) []
  keep-next = rw (add-one i) (ap (keep p) (take-suc before i 0 l) ∙ keep_append p (take i before) (get_or before i 0 ∷ []))

  module _ {after : Words} {end : ℕ} where
    pub keeping-yes : p (get_or names i 0) ≡ true → after ≡ set names r (get_or names i 0) → end ≡ r + 1 → Keeping p before after end (i + 1)
    keeping-yes y ea er =
        let f = h.few in
        rw (ea, er) (record {
          kept = rw (add-one r) (take-suc-set names r (get_or names i 0) (omega arith)) ∙ ap₂ (λ ks k. ks ++ (k ∷ [])) h.kept here ∙ sym (keep-next ∙ rw (← here, y));
          left = rw (add-one i) (drop-set-lt (suc i) names r (get_or names i 0) (omega arith) ∙ rest);
          few = omega arith;
        })

    pub keeping-no : p (get_or names i 0) ≡ false → after ≡ names → end ≡ r → Keeping p before after end (i + 1)
    keeping-no x ea er =
        let f = h.few in
        rw (ea, er) (record { kept = h.kept ∙ sym (keep-next ∙ rw (← here, x) (append-nil (keep p (take i before)))); left = rw (add-one i) rest; few = omega arith })

pub keeping-end : (p : ℕ → Bool) (before names : Words) (r i n : ℕ) → Keeping p before names r i → i ≤ n → n ≤ i → (take r names ≡ keep p (take n before)) × (r ≤ n)
keeping-end p before names r i n h a b = let s : i ≡ n = omega arith in let f = h.few in (rw (← s) h.kept, omega arith)

-- ---- a line

-- the numbers behind two words
line-put : (out ys rest : Words) (a b count : ℕ) → 2 ≤ length out → count ≤ length ys → take (count + 2) (take 2 (set (set out 0 a) 1 b) ++ (ys ++ rest)) ≡ a ∷ b ∷ take count ys
line-put [] ys rest a b count h l = absurd (omega arith)
line-put (x ∷ []) ys rest a b count h l = absurd (omega arith)
line-put (x ∷ y ∷ out) ys rest a b count h l = let s : count + 2 ≡ suc (suc count) = omega arith in rw s (ap (λ r. a ∷ b ∷ r) (take-append-le count ys rest l))

-- what stands behind the two words came back as long as it was lent
module _ (rows : Words) (walk : List Record) (hits : List FirstHit) (k : ℕ) (out : Words) (b : ℕ) (room : max_places + 2 ≤ length out) where
  abbrev lent : Words
  lent = set (set out 0 k) 1 b

  pub line-room : max_places ≤ length (mid_of 2 (length lent - 2) lent)
  line-room = simp (length-take, length-drop, length-set) (omega arith)

  pub line-back : (ys : Words) → length ys ≡ length (mid_of 2 (length lent - 2) lent) → length (put_mid 2 (length lent - 2) lent ys) ≡ length out
  line-back ys same = same_len_mid 2 (length lent - 2) lent ys same ∙ simp length-set

  module _ {ys : Words} {count : ℕ} (w : Written walk (hit_row hits k) (hit_place hits k) ys count) (low : level_of walk (hit_row hits k) < max_places) where
    pub line-few : count + 2 ≤ max_places + 2
    line-few = let n = w.long in omega arith

    pub line-written : length ys ≡ length (mid_of 2 (length lent - 2) lent) → {flag : Bool} → flag ≡ flag_read rows walk (hit_row hits k) → b ≡ bit flag
        → take (count + 2) (put_mid 2 (length lent - 2) lent ys) ≡ sel_at rows walk hits k
    unfolding sel_at
    line-written same f e =
        let long = line-room in let few = line-few in
        line-put out ys (post_of 2 (length lent - 2) lent) k b count (omega arith) (omega arith) ∙ ap₂ (λ n ps. k ∷ n ∷ ps) (e ∙ ap bit f) w.read

-- ---- sets that are empty at once

module _ (rows : Words) (t : TypeKey) {p : Bool} (e : p ≡ named_pointer_read rows t) where
  pub empty-named : p ≡ true → true ≡ empty_read rows t
  unfolding empty_read
  empty-named y = rw (← e, y)

  pub empty-iface : {b : Bool} {v : TypeKey} {r : Bool} → p ≡ false → b ≡ pointer_read rows t → b ≡ true → v ≡ bare_read rows t → r ≡ iface_read rows v → r ≡ empty_read rows t
  unfolding empty_read
  empty-iface n eb y ev er = rw (← e, n, ← eb, y, ← ev, er)

  pub empty-no : {b : Bool} → p ≡ false → b ≡ pointer_read rows t → b ≡ false → false ≡ empty_read rows t
  unfolding empty_read
  empty-no n eb y = rw (← e, n, ← eb, y)
