-- What the code reads off the rows is what labels and buckets are defined by.
use mathlib.Core.Path.{◌≡◌, refl, sym, ◌∙◌}
use mathlib.Core.Bool.{Bool, true, false, not, ◌&&◌}
use mathlib.Core.List.{List, [], ◌∷◌, map}
use Prim.Native.Nat.{ℕ, ◌+◌, ◌%◌, ◌<◌, ◌≤◌}
use native.Mathlib.Omega.{arith}
use native.Mathlib.Numerals.{add-one}
use lib.ListN.{length, get_or}
use borrow.Author.Count.{below_more}
use Rattle.objects.specs.declared.TypeKey.{TypeKey}
use Rattle.objects.specs.Lists.{Bytes, up_to}
use Rattle.objects.specs.Rows.{Words, type_count, table_of, member_at, from, members_from}
use Rattle.objects.specs.Types.{number_read, first_read, total_read}
use Rattle.objects.specs.Table.{Table, obj_key, Member, members_of, kind_at}
use Rattle.objects.proofs.ListLaws.{cases}
use Rattle.objects.proofs.BoolLaws.{false_of}
use Rattle.objects.proofs.PairLaws.{AllPairs}
use Rattle.objects.proofs.Numbers.{run-length, run_at, each_more, each-pairs, pairs-each}
use Rattle.objects.proofs.RowLaws.{number-read}
use Rattle.text.specs.Hash.{hash_from}
use Rattle.rules.specs.Identity.{parts, mismatch}
use Rattle.rules.specs.StepIdentity.{pairwise, same_step}
use Rattle.rules.proofs.StepLaws.{Holds, pairwise-split, pairwise-join}
use Rattle.type_parts.specs.Parts.{own_read, part_count, part_at, pair_of, Peers}
use Rattle.type_parts.proofs.ReadLaws.{own-read, parts-read}
use Rattle.type_parts.proofs.StepAt.{members-none, members-read, counts}
use Rattle.type_parts.proofs.KinLaws.{peers-kin, left_in, right-in}
use Rattle.twins.specs.Labels.{same_label, agrees}
use Rattle.twins.specs.Chains.{mixed, mixed_labels, first_name, buckets, bucket_of}
use Rattle.twins.proofs.AgreeLaws.{label_eq, eq-label}
use Rattle.twins.proofs.BucketLaws.{labels-more}

-- ---- two types

module _ (text : Bytes) (rows labels : Words) (x y : TypeKey) (peers : Peers (table_of text rows) x y) where
  hx : x.0 < type_count rows
  hx = left_in text rows x y (peers-kin (table_of text rows) x y peers)

  hy : y.0 < type_count rows
  hy = right-in text rows x y (peers-kin (table_of text rows) x y peers)

  same-counts : part_count rows x ≡ part_count rows y
  same-counts = let k = peers-kin (table_of text rows) x y peers in counts text rows x y hx hy k.kinds k.owns

  abbrev together : Bool
  together = pairwise (same_label labels) (parts (kind_at (table_of text rows) x)) (parts (kind_at (table_of text rows) y))

  -- all parts have one label each
  pub parts-together : (n i : ℕ) → n ≡ part_count rows x → n ≤ i → ((k : ℕ) → k < i → get_or labels (part_at rows x k).0 0 ≡ get_or labels (part_at rows y k).0 0) → true ≡ together
  parts-together n i e l h =
      sym (pairwise-join (same_label labels) (parts (kind_at (table_of text rows) x)) (parts (kind_at (table_of text rows) y))
      (rw (parts-read text rows x hx, parts-read text rows y hy, ← same-counts)
      (each-pairs (Holds (same_label labels)) (part_at rows x) (part_at rows y) (part_count rows x)
      (λ k lt. eq-label labels (part_at rows x k) (part_at rows y k) (h k (omega arith))))))

  -- those of one place more
  pub together-more : (i : ℕ) → ((k : ℕ) → k < i → get_or labels (part_at rows x k).0 0 ≡ get_or labels (part_at rows y k).0 0) → {p q : TypeKey}
      → p ≡ part_at rows x i → q ≡ part_at rows y i → get_or labels p.0 0 ≡ get_or labels q.0 0
      → (k : ℕ) → k < i + 1 → get_or labels (part_at rows x k).0 0 ≡ get_or labels (part_at rows y k).0 0
  together-more i old f g one = below_more (λ (k : ℕ). get_or labels (part_at rows x k).0 0 ≡ get_or labels (part_at rows y k).0 0) i old (rw (f, g) at one)

  -- two parts have not
  pub parts-apart : (n i : ℕ) → n ≡ part_count rows x → i < n → {p q : TypeKey} → p ≡ part_at rows x i → q ≡ part_at rows y i → (get_or labels p.0 0 ≡ get_or labels q.0 0 → ⊥) → false ≡ together
  parts-apart n i e l f g other =
      sym (false_of together (λ h.
      let a = pairwise-split (same_label labels) (parts (kind_at (table_of text rows) x)) (parts (kind_at (table_of text rows) y)) h in
      let r : AllPairs (Holds (same_label labels)) (map (part_at rows x) (up_to (part_count rows x))) (map (part_at rows y) (up_to (part_count rows x))) =
      rw (parts-read text rows x hx, parts-read text rows y hy, ← same-counts) at a in
      other (rw (f, g) (label_eq labels (part_at rows x i) (part_at rows y i) (pairs-each (Holds (same_label labels)) (part_at rows x) (part_at rows y) (part_count rows x) r i (omega arith))))))

module _ (T : Table) (labels : Words) (x y : TypeKey) where
  pub agrees-labels : (get_or labels x.0 0 ≡ get_or labels y.0 0 → ⊥) → false ≡ agrees T labels x y
  unfolding agrees
  agrees-labels n = rw (false_of (same_label labels x y) (λ h. n (label_eq labels x y h)))

  step_by : same_step T (same_label labels) x y ≡ not (mismatch T (pair_of x y)) && pairwise (same_label labels) (parts (kind_at T x)) (parts (kind_at T y))
  unfolding same_step mismatch
  step_by = rw not-not
    where
      not-not : (b : Bool) → not (not b) ≡ b
      not-not true = refl
      not-not false = refl

  pub agrees-mismatch : {b : Bool} → b ≡ mismatch T (pair_of x y) → b ≡ true → false ≡ agrees T labels x y
  unfolding agrees
  agrees-mismatch e h = cases (same_label labels x y) (λ f. rw (f, step_by, sym e ∙ h)) (λ f. rw f)

  pub agrees-parts : get_or labels x.0 0 ≡ get_or labels y.0 0 → {b : Bool} → b ≡ mismatch T (pair_of x y) → b ≡ false → {r : Bool}
      → r ≡ pairwise (same_label labels) (parts (kind_at T x)) (parts (kind_at T y)) → r ≡ agrees T labels x y
  unfolding agrees
  agrees-parts l e h r = r ∙ rw (eq-label labels x y l, step_by, sym e ∙ h)

-- ---- a type

first-at : (l : List Member) (d : Member) → 0 < length l → first_name l ≡ hash_from 0 (get_or l 0 d).name
unfolding first_name
first-at [] d h = absurd (omega arith)
first-at (m ∷ l) d h = refl

first_of : (text : Bytes) (rows : Words) (m n : ℕ) → (n ≡ 0 → ⊥) → first_name (members_from text rows m n) ≡ hash_from 0 (member_at text rows (obj_key m)).name
unfolding members_from
first_of text rows m n z =
    let none : m + 0 ≡ m = omega arith in
    let f : ℕ → Member = λ i. member_at text rows (obj_key i) in
    first-at (map f (from m n)) (f m) (rw (run-length f m n) (omega arith)) ∙ rw (run_at f m n 0 (f m) (omega arith), none)

-- a hash with the labels of the first i parts more
abbrev pub mixed_to : Words → TypeKey → Words → ℕ → ℕ → ℕ
mixed_to rows t labels before i = mixed_labels labels before (map (part_at rows t) (up_to i))

module _ (text : Bytes) (rows : Words) (t : TypeKey) (h : t.0 < type_count rows) where
  pub name-low : {k : ℕ} → k ≡ number_read rows t → k < 8 → 0 ≡ first_name (members_of (kind_at (table_of text rows) t))
  unfolding first_name
  name-low e l = rw (members-none (kind_at (table_of text rows) t) (omega (arith, number-read text rows t h)))

  pub name-none : {k n : ℕ} → k ≡ number_read rows t → 8 ≤ k → n ≡ total_read rows t → n ≡ 0 → 0 ≡ first_name (members_of (kind_at (table_of text rows) t))
  unfolding first_name members_from
  name-none e l f z = rw (members-read text rows t h (omega arith), sym f ∙ z)

  pub name-first : {k n m r : ℕ} → k ≡ number_read rows t → 8 ≤ k → n ≡ total_read rows t → (n ≡ 0 → ⊥) → m ≡ first_read rows t
      → r ≡ hash_from 0 (member_at text rows (obj_key m)).name → r ≡ first_name (members_of (kind_at (table_of text rows) t))
  name-first {n = n} {m = m} e l f z g q = q ∙ rw (members-read text rows t h (omega arith), ← f, ← g) (sym (first_of text rows m n z))

  module _ (labels : Words) (before : ℕ) where
    pub mixed-none : before ≡ mixed_to rows t labels before 0
    unfolding mixed_labels
    mixed-none = refl

    pub mixed-more : (i : ℕ) {m r : ℕ} {p : TypeKey} → m ≡ mixed_to rows t labels before i → p ≡ part_at rows t i → r ≡ mixed m (get_or labels p.0 0) → r ≡ mixed_to rows t labels before (i + 1)
    mixed-more i e f q = q ∙ rw (e, f, add-one i, each_more (part_at rows t) i, labels-more labels before (map (part_at rows t) (up_to i)) (part_at rows t i))

    pub mixed-all : (n i : ℕ) {m : ℕ} → n ≡ part_count rows t → i ≡ n → m ≡ mixed_to rows t labels before i → m ≡ mixed_labels labels before (parts (kind_at (table_of text rows) t))
    mixed-all n i e f q = q ∙ rw (parts-read text rows t h, f ∙ e)

  pub bucket-read : (labels : Words) {name number first own second third all : ℕ} → name ≡ first_name (members_of (kind_at (table_of text rows) t)) → number ≡ number_read rows t → first ≡ mixed name number
      → own ≡ own_read rows t → second ≡ mixed first own → third ≡ mixed second (get_or labels t.0 0)
      → all ≡ mixed_labels labels third (parts (kind_at (table_of text rows) t)) → all % buckets ≡ bucket_of (table_of text rows) labels t
  unfolding bucket_of
  bucket-read labels e f g p q s a = rw (a, s, q, g, f, p, e, ← number-read text rows t h, ← own-read text rows t h)
