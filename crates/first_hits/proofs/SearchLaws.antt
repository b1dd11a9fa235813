-- The search for an id among the names that ascend, and what it tells of the member that has the id.
use mathlib.Core.Path.{◌≡◌, refl, sym, ◌∙◌, subst}
use mathlib.Core.Bool.{Bool, true, false}
use mathlib.Core.List.{List}
use Prim.Native.Nat.{ℕ, ◌+◌, ◌-◌, ◌/◌, ◌<◌, ◌≤◌}
use native.Mathlib.Numerals.{add-one}
use native.Mathlib.Omega.{arith}
use lib.ListN.{length, get_or, take, drop}
use lib.Seq.{length-take-le, get_or-take}
use Rattle.std.specs.declared.cmp.Ordering.{Ordering}
use Rattle.std.specs.declared.cmp.Ordering.TheVariants.{Less, Equal, Greater}
use Rattle.std.specs.Prelude.{Result, Ok, Err}
use Rattle.objects.specs.Lists.{Bytes, In}
use Rattle.objects.specs.Table.{obj_key}
use Rattle.objects.specs.Rows.{Words, member_count_of, member_at, table_of}
use Rattle.objects.proofs.ListLaws.{cases, clash, either}
use Rattle.objects.proofs.PartLaws.{get_or-In}
use Rattle.text.specs.Bytes.{below_bytes, same_bytes}
use Rattle.text.specs.Compare.{order_of}
use Rattle.text.proofs.ByteLaws.{same_true, below-trans}
use Rattle.text.proofs.CompareLaws.{order-above}
use Rattle.rules.specs.Library.{Library}
use Rattle.rules.specs.Members.{identity_of, id_bytes}
use Rattle.rules.proofs.IdLaws.{id-injective}
use Rattle.first_hits.specs.Names.{identity_at, id_at, AllBelow, AllAbove, Listed, Placed}
use Rattle.first_hits.proofs.KeyMembers.{proper-at}
use Rattle.first_hits.proofs.SortedParts.{sorted_before, sorted-behind}

-- ---- what an order says

order-equal : (a b : Bytes) → order_of a b ≡ Equal → a ≡ b
unfolding order_of
order-equal a b h =
    cases (below_bytes a b)
    (λ e. let q : ◌≡◌ {A = Ordering} Less Equal = rw e at h in let z : ◌≡◌ {A = Bool} true false = cc in clash refl z)
    (λ e. cases (same_bytes a b)
    (λ f. same_true a b f)
    (λ f. let q : ◌≡◌ {A = Ordering} Greater Equal = rw (e, f) at h in let z : ◌≡◌ {A = Bool} true false = cc in clash refl z))

order-less : (a b : Bytes) → order_of a b ≡ Less → below_bytes a b ≡ true
unfolding order_of
order-less a b h =
    cases (below_bytes a b)
    (λ e. e)
    (λ e. cases (same_bytes a b)
    (λ f. let q : ◌≡◌ {A = Ordering} Equal Less = rw (e, f) at h in let z : ◌≡◌ {A = Bool} true false = cc in clash refl z)
    (λ f. let q : ◌≡◌ {A = Ordering} Greater Less = rw (e, f) at h in let z : ◌≡◌ {A = Bool} true false = cc in clash refl z))

-- ---- the search

pub halfway : (low high : ℕ) → low < high → (low ≤ low + (high - low) / 2) × (low + (high - low) / 2 < high)
halfway low high h = (omega arith, omega arith)

module _ (text : Bytes) (rows : Words) where
  -- the id of a member, as `id_of` gives it
  pub id-read : (k : ℕ) → id_bytes (identity_of (table_of text rows) (member_at text rows (obj_key k))) ≡ id_at text rows k
  unfolding id_at identity_at
  id-read k = refl

  -- the search for q has still to look from low up to high
  pub record Between (names : Words) (n : ℕ) (q : Bytes) (low high : ℕ) : Type 0 where
    pub order : (low ≤ high) × (high ≤ n)
    pub below : AllBelow text rows q (take low (take n names))
    pub above : AllAbove text rows q (drop high (take n names))

  module _ (names : Words) (n : ℕ) (fits : n ≤ length names) (listed : Listed text rows (take n names)) where
    counted : length (take n names) ≡ n
    counted = length-take-le n names fits

    -- one of the names is a member's key
    pub name-key : (i : ℕ) → i < n → get_or names i 0 < member_count_of rows
    name-key i h = listed.keys (get_or names i 0) (subst (λ x. In x (take n names)) (get_or-take n names i 0 h) (get_or-In (take n names) i 0 (rw counted h)))

    module _ (q : Bytes) where
      module _ (mid : ℕ) (h : mid < n) (x : Bytes) (p : x ≡ id_at text rows (get_or names mid 0)) (o : Ordering) (po : o ≡ order_of x q) where
        at_mid : get_or (take n names) mid 0 ≡ get_or names mid 0
        at_mid = get_or-take n names mid 0 h

        pub between-less : (low high : ℕ) → low ≤ mid → mid < high → o ≡ Less → Between names n q low high → Between names n q (mid + 1) high
        between-less low high a b e s =
            let t = s.order in
            let z : below_bytes (id_at text rows (get_or (take n names) mid 0)) q ≡ true = rw (at_mid, ← p) (order-less x q (sym po ∙ e)) in
            record {
              order = (omega arith, omega arith);
              below = λ k i. either (sorted_before (λ (a b : ℕ). below_bytes (id_at text rows a) (id_at text rows b) ≡ true) (take n names) mid 0 k listed.sorted (rw counted h) (rw (add-one mid) at i))
                  (λ f. rw f z)
                  (λ f. below-trans (id_at text rows k) (id_at text rows (get_or (take n names) mid 0)) q f z);
              above = s.above;
            }

        pub between-greater : (low high : ℕ) → low ≤ mid → mid < high → o ≡ Greater → Between names n q low high → Between names n q low mid
        between-greater low high a b e s =
            let t = s.order in
            let z : below_bytes q (id_at text rows (get_or (take n names) mid 0)) ≡ true = rw (at_mid, ← p) (order-above x q (sym po ∙ e)) in
            record {
              order = (omega arith, omega arith);
              below = s.below;
              above = λ k i. either (sorted-behind (λ (a b : ℕ). below_bytes (id_at text rows a) (id_at text rows b) ≡ true) (take n names) mid 0 k listed.sorted (rw counted h) i)
                  (λ f. rw f z)
                  (λ f. below-trans q (id_at text rows (get_or (take n names) mid 0)) (id_at text rows k) z f);
            }

        pub between-equal : o ≡ Equal → Placed text rows (take n names) q (Ok mid)
        unfolding Placed
        between-equal e = (rw counted h, rw (at_mid, ← p) (order-equal x q (sym po ∙ e)))

      pub between-end : (low high : ℕ) → high ≤ low → Between names n q low high → Placed text rows (take n names) q (Err low)
      unfolding Placed
      between-end low high h s =
          let t = s.order in
          let e : high ≡ low = omega arith in
          (rw counted (omega arith), s.below, subst (λ i. AllAbove text rows q (drop i (take n names))) e s.above)

-- ---- what was found

module _ (text : Bytes) (rows : Words) (l : List ℕ) (q : Bytes) {r : Result ℕ ℕ} (s : Placed text rows l q r) where
  pub found_at : {i : ℕ} → r ≡ Ok i → (i < length l) × (id_at text rows (get_or l i 0) ≡ q)
  unfolding Placed
  found_at e = subst (Placed text rows l q) e s

  pub new-at : {i : ℕ} → r ≡ Err i → (i ≤ length l) × AllBelow text rows q (take i l) × AllAbove text rows q (drop i l)
  unfolding Placed
  new-at e = subst (Placed text rows l q) e s

-- the same of the first n names
module _ (text : Bytes) (rows : Words) (names : Words) (n : ℕ) (fits : n ≤ length names) (q : Bytes) {r : Result ℕ ℕ} (s : Placed text rows (take n names) q r) where
  pub found_in : {i : ℕ} → r ≡ Ok i → i < n
  found_in e = rw (length-take-le n names fits) at (found_at text rows (take n names) q s e).0

  pub new_in : {i : ℕ} → r ≡ Err i → i ≤ n
  new_in e = rw (length-take-le n names fits) at (new-at text rows (take n names) q s e).0

-- q is the id of the member m
pub placed_of : (text : Bytes) (rows : Words) (l : List ℕ) {q : Bytes} (r : Result ℕ ℕ) → Placed text rows l q r → (m : ℕ) → q ≡ id_bytes (identity_of (table_of text rows) (member_at text rows (obj_key m)))
    → Placed text rows l (id_at text rows m) r
placed_of text rows l r s m e = subst (λ x. Placed text rows l x r) (e ∙ id-read text rows m) s

module _ (text : Bytes) (rows : Words) (lib : Library text rows) where
  -- members of one id have one identity
  pub same-identity : (j k : ℕ) → j < member_count_of rows → k < member_count_of rows → id_at text rows j ≡ id_at text rows k → identity_at text rows j ≡ identity_at text rows k
  unfolding id_at
  same-identity j k hj hk e = id-injective (identity_at text rows j) (identity_at text rows k) (proper-at text rows lib j hj) (proper-at text rows lib k hk) e
