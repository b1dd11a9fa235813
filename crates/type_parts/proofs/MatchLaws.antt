-- What tells two types apart whatever their parts are (`mismatch` of the rules), in terms of what is read off the rows: their kinds, their own numbers, and
-- their members at the same places.
use mathlib.Core.Path.{◌≡◌, refl, sym, ap, ◌∙◌}
use mathlib.Core.Bool.{Bool, true, false, not}
use mathlib.Core.List.{List}
use mathlib.Core.Logic.{◌≢◌}
use Prim.Native.Nat.{ℕ, ◌+◌, ◌<◌, ◌≤◌}
use native.Mathlib.Omega.{arith}
use lib.Dec.{eqb}
use lib.ListN.{length, get_or}
use borrow.Author.Tests.{eqb-true, eqb-false, eq-eqb}
use Rattle.objects.specs.declared.TypeKey.{TypeKey}
use Rattle.objects.specs.Lists.{Bytes}
use Rattle.objects.specs.Table.{Table, Member, obj_key, kind_number, members_of, kind_at}
use Rattle.objects.specs.Rows.{Words, type_count, member_at, members_from, table_of}
use Rattle.objects.specs.Types.{number_read, first_read, total_read}
use Rattle.objects.proofs.ListLaws.{cases, clash, and_l, and_r}
use Rattle.objects.proofs.BoolLaws.{and_i, false_of}
use Rattle.objects.proofs.PairLaws.{AllPairs, pairs-self, pairs-at, pairs-from}
use Rattle.objects.proofs.RowLaws.{number-read, size-read, members-length, members-at}
use Rattle.rules.specs.Identity.{own_number, alike_member, alike, mismatch}
use Rattle.rules.proofs.StepLaws.{match-common, common-match}
use Rattle.rules.proofs.MemberLaws.{Alike, alike_member-split, alike_member-join, alike-split, alike-join}
use Rattle.type_parts.specs.Parts.{own_read, part_count, same_numbers, pair_of, Kin}
use Rattle.type_parts.proofs.ReadLaws.{own-read}
use Rattle.type_parts.proofs.StepAt.{members-none, one-name, counts, numbers, named_count, members-read, count-members}
use Rattle.type_parts.proofs.KinLaws.{left_in, right-in}

told : (T : Table) (x y : TypeKey) → ((mismatch T (pair_of x y) ≡ false) → ⊥) → true ≡ mismatch T (pair_of x y)
told T x y h = cases (mismatch T (pair_of x y)) (λ e. sym e) (λ e. absurd (h e))

-- ---- kinds and own numbers

module _ (text : Bytes) (rows : Words) (x y : TypeKey) (hx : x.0 < type_count rows) (hy : y.0 < type_count rows) where
  -- read to be the same, they are
  pub numbers-kin : same_numbers rows x y ≡ true → Kin (table_of text rows) x y
  unfolding same_numbers
  numbers-kin h =
      let kinds = eqb (number_read rows x) (number_read rows y) in
      let owns = eqb (own_read rows x) (own_read rows y) in
      record {
        left = rw (size-read text rows) hx;
        right = rw (size-read text rows) hy;
        kinds = number-read text rows x hx ∙ eqb-true (number_read rows x) (number_read rows y) (and_l kinds owns h) ∙ sym (number-read text rows y hy);
        owns = own-read text rows x hx ∙ eqb-true (own_read rows x) (own_read rows y) (and_r kinds owns h) ∙ sym (own-read text rows y hy);
      }

  -- and types that agree in them are read to
  pub agree-numbers : kind_number (kind_at (table_of text rows) x) ≡ kind_number (kind_at (table_of text rows) y)
      → own_number x (kind_at (table_of text rows) x) ≡ own_number y (kind_at (table_of text rows) y) → same_numbers rows x y ≡ true
  unfolding same_numbers
  agree-numbers k o =
      and_i (eq-eqb (number_read rows x) (number_read rows y) (sym (number-read text rows x hx) ∙ k ∙ number-read text rows y hy))
      (eq-eqb (own_read rows x) (own_read rows y) (sym (own-read text rows x hx) ∙ o ∙ own-read text rows y hy))

  pub numbers-mismatch : (r : Bool) → r ≡ same_numbers rows x y → r ≡ false → true ≡ mismatch (table_of text rows) (pair_of x y)
  numbers-mismatch r e h =
      told (table_of text rows) x y (λ f. let m = match-common (table_of text rows) x y f in clash (agree-numbers m.0 m.1) (sym e ∙ h))

-- ---- members

-- the i-th member from a on and the i-th from b on are called alike
abbrev pub alike_at : Bytes → Words → ℕ → ℕ → ℕ → Bool
alike_at text rows a b i = alike_member (table_of text rows) (member_at text rows (obj_key (a + i))) (member_at text rows (obj_key (b + i)))

module _ (text : Bytes) (rows : Words) (x y : TypeKey) (k : Kin (table_of text rows) x y) where
  abbrev T : Table
  T = table_of text rows

  abbrev ms : List Member
  ms = members_of (kind_at T x)

  abbrev ns : List Member
  ns = members_of (kind_at T y)

  -- of kin only the members are left
  pub members-mismatch : (r : Bool) → r ≡ alike T ms ns → not r ≡ mismatch T (pair_of x y)
  members-mismatch r e =
      cases r
      (λ h. rw h (sym (common-match T x y (k.kinds, k.owns, alike-split T ms ns (sym e ∙ h)))))
      (λ h. rw h (told T x y (λ f. clash (alike-join T ms ns (match-common T x y f).2) (sym e ∙ h))))

  hx : x.0 < type_count rows
  hx = left_in text rows x y k

  hy : y.0 < type_count rows
  hy = right-in text rows x y k

  same-numbers : number_read rows x ≡ number_read rows y
  same-numbers = numbers text rows x y hx hy k.kinds k.owns

  -- a type of another kind has none
  pub none-called : (n : ℕ) → n ≡ number_read rows x → n < 8 → true ≡ alike T ms ns
  none-called n f g =
      let d = number-read text rows x hx in
      let e = number-read text rows y hy in
      let s = same-numbers in
      rw (members-none (kind_at T x) (omega arith), members-none (kind_at T y) (omega arith)) refl

  -- a struct, an interface or a named type, which is kin to itself alone
  module _ (h : ℕ) (f : h ≡ number_read rows x) (e : 8 ≤ h) where
    g : 8 ≤ number_read rows x
    g = omega arith

    module _ (n : number_read rows x ≢ 10) where
      left-members : ms ≡ members_from text rows (first_read rows x) (total_read rows x)
      left-members = members-read text rows x hx g

      right-members : ns ≡ members_from text rows (first_read rows y) (total_read rows y)
      right-members = members-read text rows y hy (rw (sym same-numbers) g)

      left-total : part_count rows x ≡ total_read rows x
      left-total = count-members text rows x hx g n

      same-totals : total_read rows x ≡ total_read rows y
      same-totals = sym left-total ∙ counts text rows x y hx hy k.kinds k.owns ∙ count-members text rows y hy (rw (sym same-numbers) g) (rw (sym same-numbers) n)

      d : Member
      d = member_at text rows (obj_key 0)

      left_at : (i : ℕ) → i < part_count rows x → get_or ms i d ≡ member_at text rows (obj_key (first_read rows x + i))
      left_at i l = rw left-members (members-at text rows (first_read rows x) (total_read rows x) i d (omega (arith, left-total)))

      right-at : (i : ℕ) → i < part_count rows x → get_or ns i d ≡ member_at text rows (obj_key (first_read rows y + i))
      right-at i l = rw right-members (members-at text rows (first_read rows y) (total_read rows y) i d (omega (arith, left-total, same-totals)))

      left-long : length ms ≡ part_count rows x
      left-long = ap length left-members ∙ members-length text rows (first_read rows x) (total_read rows x) ∙ sym left-total

      right-long : length ns ≡ part_count rows x
      right-long = ap length right-members ∙ members-length text rows (first_read rows y) (total_read rows y) ∙ sym same-totals ∙ sym left-total

      all_alike : ((i : ℕ) → i < part_count rows x → alike_at text rows (first_read rows x) (first_read rows y) i ≡ true) → AllPairs (Alike T) ms ns
      all_alike h = pairs-from (Alike T) ms ns d (left-long ∙ sym right-long) (λ i l. let j : i < part_count rows x = omega (arith, left-long) in rw (left_at i j, right-at i j) (alike_member-split T _ _ (h i j)))

      alike-place : AllPairs (Alike T) ms ns → (i : ℕ) → i < part_count rows x → alike_at text rows (first_read rows x) (first_read rows y) i ≡ true
      alike-place a i l = let r = pairs-at (Alike T) ms ns i d a (omega (arith, left-long)) in alike_member-join T _ _ (rw (left_at i l, right-at i l) at r)

    -- the n members from a on and from b on are those of x and y
    module _ (n a b : ℕ) (n-is : n ≡ part_count rows x) (a-is : a ≡ first_read rows x) (b-is : b ≡ first_read rows y) where
      pub all-called : ((i : ℕ) → i < n → alike_at text rows a b i ≡ true) → true ≡ alike T ms ns
      all-called c =
          sym (alike-join T ms ns (cases (eqb (number_read rows x) 10)
          (λ q. let z = one-name text rows x y hx hy k.kinds k.owns (eqb-true (number_read rows x) 10 q) in rw z (pairs-self (Alike T) ns (λ m i. (refl, refl, refl))))
          (λ q. all_alike (eqb-false (number_read rows x) 10 q) (rw (n-is, a-is, b-is) at c))))

      pub not-called : (i : ℕ) → i < n → alike_at text rows a b i ≡ false → false ≡ alike T ms ns
      not-called i l c =
          let unnamed : number_read rows x ≢ 10 = λ z. let w = named_count text rows x hx z in absurd (omega arith) in
          sym (false_of (alike T ms ns) (λ q. clash (alike-place unnamed (alike-split T ms ns q) i (omega arith)) (rw (a-is, b-is) at c)))
