-- The answers of `identical_impl` and `identical_impl_o`, in the terms of what their code knows at each place, and what falls from call to call.
use mathlib.Core.Path.{◌≡◌, refl, sym, ◌∙◌}
use mathlib.Core.Bool.{Bool, true, false, not}
use mathlib.Core.List.{List}
use mathlib.Core.Logic.{◌⊎◌, ◌≢◌}
use Prim.Native.Nat.{ℕ, ◌+◌, ◌*◌, ◌/◌, ◌<◌, ◌≤◌}
use native.Mathlib.Omega.{arith}
use native.Mathlib.Nat.{le_trans}
use lib.Dec.{eqb}
use lib.ListN.{length, get_or}
use borrow.Author.Tests.{eqb-true, eqb-false, not-true, not-false}
use Rattle.objects.specs.declared.TypeKey.{TypeKey}
use Rattle.objects.specs.Bounds.{max_types, pair_words}
use Rattle.objects.specs.Lists.{Bytes}
use Rattle.objects.specs.Table.{Table, size, type_key}
use Rattle.objects.specs.Rows.{Words, type_count, table_of}
use Rattle.objects.proofs.ListLaws.{clash}
use Rattle.objects.proofs.KeyLaws.{key-eq}
use Rattle.objects.proofs.RowLaws.{size-read}
use Rattle.rules.specs.Identity.{mismatch}
use Rattle.rules.specs.StepIdentity.{same_in}
use Rattle.rules.specs.Library.{Library}
use Rattle.rules.proofs.StepLaws.{same-zero, same-split, same_self, agree-match}
use Rattle.type_parts.specs.Parts.{part_count, part_at, pair_of, Peers}
use Rattle.type_parts.proofs.StepAt.{step-join}
use Rattle.type_parts.proofs.Rank.{rank, high, high_le, rank_span, rank-part}
use Rattle.type_parts.proofs.KinLaws.{peers-kin, left_in}
use Rattle.pair_marks.specs.Marks.{met, unmet}
use Rattle.pair_marks.specs.Classes.{OneClass}
use Rattle.pair_marks.specs.Pairs.{pair}
use Rattle.typ.specs.Compared.{Entered, Same, Well, Compared, PartsCompared, AtOnce}
use Rattle.pair_marks.proofs.Bits.{unmet-falls}
use Rattle.pair_marks.proofs.PairLaws.{pair-in}
use Rattle.typ.proofs.Marked.{went-parts, taken-same, went-taken}
use Rattle.typ.proofs.Entering.{went-off, well-open, went-open}
use Rattle.typ.proofs.Passing.{Passed}

-- ---- keys that are compared

module _ {x y : TypeKey} {r : Bool} (e : r ≡ eqb x.0 y.0) where
  pub one-key : r ≡ true → x.0 ≡ y.0
  one-key h = eqb-true x.0 y.0 (sym e ∙ h)

  pub two_keys : r ≡ false → x.0 ≢ y.0
  two_keys h = eqb-false x.0 y.0 (sym e ∙ h)

-- ---- told apart at once

module _ (T : Table) (x y : TypeKey) where
  -- types that agree for one step are told apart by their parts at most
  pub once-match : same_in T 1 x y ≡ true → mismatch T (pair_of x y) ≡ false
  once-match s = agree-match T (same_in T 0) x y (same-split T 0 x y s)

  pub mismatch-apart : (r : Bool) → r ≡ mismatch T (pair_of x y) → r ≡ true → Same T x y → ⊥
  mismatch-apart r e h s = clash (sym e ∙ h) (once-match (s 1))

  pub at-once-told : (l c : List ℕ) → AtOnce T l l c c x y false
  unfolding AtOnce
  at-once-told l c _ = (refl, refl, refl)

  -- of what is no mismatch nothing is said
  pub at-once-else : (l l' c c' : List ℕ) (r : Bool) → mismatch T (pair_of x y) ≡ false → AtOnce T l l' c c' x y r
  unfolding AtOnce
  at-once-else l l' c c' r h m = clash m h

  pub self-match : x.0 ≡ y.0 → mismatch T (pair_of x y) ≡ false
  self-match e = let z : x ≡ y = key-eq x y e in once-match (rw z (same_self T 1 y))

module _ (text : Bytes) (rows : Words) (lib : Library text rows) where
  pub key-small : (x : TypeKey) → x.0 < type_count rows → x.0 < max_types
  key-small x h = omega (arith, lib.laid.types)

  pub in_size : (x : TypeKey) → x.0 < type_count rows → x.0 < size (table_of text rows)
  in_size x h = rw (size-read text rows) h

  -- there is a label for each type
  pub in-labels : (x : TypeKey) → x.0 < type_count rows → (l c : List ℕ) → Well (table_of text rows) l c → x.0 < length c
  in-labels x h l c w = le_trans (in_size x h) w.rooted.long

  -- and a mark for each pair
  pub in-marks : (x y : TypeKey) → x.0 < type_count rows → y.0 < type_count rows → x.0 ≢ y.0 → (l : List ℕ) → pair_words (type_count rows) ≤ length l → pair x y / 32 < length l
  in-marks x y hx hy d l h = le_trans (pair-in (type_count rows) x y hx hy d) h

  -- the type numbered i, and the one that its label names
  module _ (l c : List ℕ) (w : Well (table_of text rows) l c) (i : ℕ) (h : i < type_count rows) where
    pub root-small : get_or c i 0 < type_count rows
    root-small = rw (size-read text rows) at (w.rooted.small i (in_size (type_key i) h))

    pub root-mark : get_or c i 0 ≢ i → (p : ℕ) → p ≡ pair (type_key (get_or c i 0)) (type_key i) → pair_words (type_count rows) ≤ length l → p / 32 < length l
    root-mark d p z k = rw z (in-marks (type_key (get_or c i 0)) (type_key i) root-small h d l k)

  -- two types of one class, or whose pair was met
  module _ (x y : TypeKey) (hx : x.0 < type_count rows) (hy : y.0 < type_count rows) (d : x.0 ≢ y.0) (l c : List ℕ) (w : Well (table_of text rows) l c) (k : OneClass c x y ⊎ (met l (pair x y) ≡ true)) where
    pub known-match : mismatch (table_of text rows) (pair_of x y) ≡ false
    known-match = once-match (table_of text rows) x y (taken-same (table_of text rows) l c x y w (in_size x hx) (in_size y hy) d k 1 w.agree)

    pub known-went : Compared (table_of text rows) l l c c x y true
    known-went = went-taken (table_of text rows) l c x y w (in_size x hx) (in_size y hy) d k

  module _ (x y : TypeKey) (k : Peers (table_of text rows) x y) where
    left-small : x.0 < type_count rows
    left-small = left_in text rows x y (peers-kin (table_of text rows) x y k)

    once-same : same_in (table_of text rows) 1 x y ≡ true
    once-same = step-join text rows x y k 0 (λ i h. same-zero (table_of text rows) (part_at rows x i) (part_at rows y i))

    module _ (d : x.0 ≢ y.0) (l : List ℕ) (in-l : pair x y / 32 < length l) (c c' : List ℕ) (w : Well (table_of text rows) l c) (u : met l (pair x y) ≡ false) (m : List ℕ) (r : Bool) (n : Entered l m c c' x y r) where
      -- it is put off
      pub entered-not : not r ≡ true → Compared (table_of text rows) l m c c' x y true
      entered-not z =
          let p = n.passed (not-true r z) in
          let e = p.0 in
          rw e (went-off (table_of text rows) x y k.left k.right l c c' w once-same p.1)

      -- it is opened
      pub entered-well : not r ≡ false → Well (table_of text rows) m c'
      entered-well z =
          let o = n.entered (not-false r z) in
          let e = o.0 in
          rw e (well-open (table_of text rows) x y k.left k.right d l in-l u c c' w o.1 once-same)

      pub entered-went : not r ≡ false → (l' c'' : List ℕ) (b : Bool) → PartsCompared (table_of text rows) m l' c' c'' x y b → Compared (table_of text rows) l l' c c'' x y b
      entered-went z l' c'' b v =
          let o = n.entered (not-false r z) in
          let e = o.0 in
          went-parts (table_of text rows) x y l l' c c'' b (went-open (table_of text rows) x y k.left k.right d l in-l u c c' w o.1 l' c'' b (rw e at v))

      pub entered-falls : not r ≡ false → (t : ℕ) → rank_span * unmet l + rank rows x ≡ t → rank_span * unmet m + high rows x < t
      entered-falls z t q =
          let o = n.entered (not-false r z) in
          let e = o.0 in
          rw e (omega (arith, unmet-falls l (pair x y) in-l u, high_le rows x (key-small x left-small)))

    -- ---- their parts

    module _ (i n : ℕ) (e : n ≡ part_count rows x) (h : i < n) where
      pub part_falls : (t : ℕ) (p : TypeKey) (l m c c' : List ℕ) → p ≡ part_at rows x i → Passed text rows l m c c' x y i → rank_span * unmet l + high rows x ≡ t → rank_span * unmet m + rank rows p < t
      part_falls t p l m c c' z g q = rw z (omega (arith, rank-part text rows lib x left-small i (omega arith), g.grown.fewer))
