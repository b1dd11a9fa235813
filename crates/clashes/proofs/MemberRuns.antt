-- Members that stand one after the other (`members_from`): the first of them, tests of any of them, and the last before another.
use mathlib.Core.Path.{◌≡◌, refl, sym, ap, ◌∙◌}
use mathlib.Core.Bool.{Bool, true, false, not}
use mathlib.Core.List.{[], ◌∷◌}
use Prim.Native.Nat.{ℕ, zero, suc, ◌+◌, ◌-◌, ◌≤◌, ◌<◌}
use native.Mathlib.Nat.{eq-or-lt_of_le}
use native.Mathlib.Numerals.{add-one}
use native.Mathlib.Omega.{arith}
use lib.ListN.{length, take}
use lib.Seq.{take_all, take-append-le}
use Rattle.objects.specs.Lists.{Bytes, any}
use Rattle.objects.specs.Table.{Member, obj_key}
use Rattle.objects.specs.Rows.{Words, member_at, members_from, table_of}
use Rattle.objects.proofs.ListLaws.{either, any_append, any-In}
use Rattle.objects.proofs.BoolLaws.{and_yes}
use Rattle.objects.proofs.PartLaws.{last_snoc}
use Rattle.objects.proofs.RowLaws.{members-length, members-have, members-more}
use Rattle.text.specs.Bytes.{below_bytes}
use Rattle.rules.specs.Members.{identity_of, id_bytes}
use Rattle.rules.specs.Checks.{ascends}

module _ (text : Bytes) (rows : Words) (first : ℕ) where
  pub members-take : (i n : ℕ) → i ≤ n → take i (members_from text rows first n) ≡ members_from text rows first i
  unfolding members_from
  members-take i zero h = let z : i ≡ 0 = omega arith in rw z
  members-take i (suc n) h = either (eq-or-lt_of_le h) (whole i n) (λ l. part i n (omega arith) (members-take i n (omega arith)))
    where
      whole : (i n : ℕ) → i ≡ suc n → take i (members_from text rows first (suc n)) ≡ members_from text rows first i
      whole i n e = let k : length (members_from text rows first (suc n)) ≤ suc n = rw (members-length text rows first (suc n)) (omega arith) in rw e (take_all (suc n) (members_from text rows first (suc n)) k)

      part : (i n : ℕ) → i ≤ n → take i (members_from text rows first n) ≡ members_from text rows first i → take i (members_from text rows first (suc n)) ≡ members_from text rows first i
      part i n l e =
          let k : i ≤ length (members_from text rows first n) = rw (members-length text rows first n) l in
          ap (take i) (members-more text rows first n) ∙ take-append-le i (members_from text rows first n) _ k ∙ e

  -- ---- one of them passes a test

  module _ (p : Member → Bool) where
    pub any-start : any p (members_from text rows first 0) ≡ false
    unfolding members_from
    any-start = refl

    pub any-on : (i : ℕ) → any p (members_from text rows first i) ≡ false → p (member_at text rows (obj_key (first + i))) ≡ false → any p (members_from text rows first (i + 1)) ≡ false
    any-on i h k =
        ap (λ j. any p (members_from text rows first j)) (add-one i)
        ∙ ap (any p) (members-more text rows first i)
        ∙ any_append p (members_from text rows first i) (member_at text rows (obj_key (first + i)) ∷ [])
        ∙ rw (h, k)

    pub any_here : (i n : ℕ) → i < n → p (member_at text rows (obj_key (first + i))) ≡ true → any p (members_from text rows first n) ≡ true
    any_here i n l e = any-In p (members_from text rows first n) (member_at text rows (obj_key (first + i))) (members-have text rows first n i l) e

    pub any-end : {i n : ℕ} → i ≤ n → n ≤ i → any p (members_from text rows first i) ≡ false → any p (members_from text rows first n) ≡ false
    any-end {i = i} {n = n} h k e = let z : n ≡ i = omega arith in rw z e

  -- ---- "Interface methods strictly ascend": m behind n of them

  module _ (m : Member) where
    pub falls-first : {n : ℕ} → n ≡ 0 → false ≡ not (ascends (table_of text rows) (members_from text rows first n) m)
    unfolding members_from
    falls-first e = rw e

    pub falls-next : (n : ℕ) → (n ≡ 0 → ⊥) → {b : Bool}
        → b ≡ below_bytes (id_bytes (identity_of (table_of text rows) (member_at text rows (obj_key (first + (n - 1)))))) (id_bytes (identity_of (table_of text rows) m))
        → not b ≡ not (ascends (table_of text rows) (members_from text rows first n) m)
    falls-next zero ne p = absurd (ne refl)
    falls-next (suc k) ne {b = b} p =
        let z : suc k - 1 ≡ k = omega arith in
        let q : b ≡ below_bytes (id_bytes (identity_of (table_of text rows) (member_at text rows (obj_key (first + k))))) (id_bytes (identity_of (table_of text rows) m)) = rw z at p in
        rw (members-more text rows first k, last_snoc (members_from text rows first k) (member_at text rows (obj_key (first + k))))
        (ap not (q ∙ sym (and_yes (below_bytes (id_bytes (identity_of (table_of text rows) (member_at text rows (obj_key (first + k))))) (id_bytes (identity_of (table_of text rows) m))))))
