-- Where the members or elements of a type stand: from its first on as many as its row says, all of them among those that there are.
use mathlib.Core.Path.{◌≡◌, refl}
use Prim.Native.Nat.{◌+◌, ◌<◌, ◌≤◌}
use native.Mathlib.Omega.{arith}
use lib.Dec.{eqb}
use borrow.Author.Tests.{eqb-true, eq-eqb}
use Rattle.objects.specs.declared.TypeKey.{TypeKey}
use Rattle.objects.specs.Bounds.{max_elements}
use Rattle.objects.specs.Lists.{Bytes}
use Rattle.objects.specs.Table.{members_of, kind_at}
use Rattle.objects.specs.Rows.{Words, type_count, type_word, element_count, member_count_of, members_from, table_of}
use Rattle.objects.specs.Types.{number_of, number_read, first_read, total_read}
use Rattle.objects.specs.Laid.{Laid, end_of}
use Rattle.objects.proofs.ListLaws.{cases}
use Rattle.objects.proofs.RowLaws.{kind-read, number-meant, members-meant}

module _ (rows : Words) (t : TypeKey) (laid : Laid rows) (h : t.0 < type_count rows) where
  -- no member or element is numbered higher than there are elements at most
  pub span_small : first_read rows t + total_read rows t ≤ max_elements
  unfolding first_read total_read end_of
  span_small =
      let w = laid.within t h in
      cases (eqb (type_word rows t 0) 6)
      (λ e. let v : type_word rows t 4 + type_word rows t 5 ≤ element_count rows = rw e at w in omega (arith, laid.elements))
      (λ e. let v : type_word rows t 4 + type_word rows t 5 ≤ member_count_of rows = rw e at w in omega (arith, laid.members))

  -- those of a type that may have members are members, and no elements of a tuple
  pub span-within : 8 ≤ number_read rows t → first_read rows t + total_read rows t ≤ member_count_of rows
  unfolding first_read total_read end_of number_read number_of
  span-within g =
      let w = laid.within t h in
      cases (eqb (type_word rows t 0) 6)
      (λ e. let k : 8 ≤ number_of 6 = rw (eqb-true (type_word rows t 0) 6 e) at g in absurd (omega arith))
      (λ e. rw e at w)

-- the members of such a type
pub members-row : (text : Bytes) (rows : Words) (t : TypeKey) → t.0 < type_count rows → 8 ≤ number_read rows t
    → members_of (kind_at (table_of text rows) t) ≡ members_from text rows (first_read rows t) (total_read rows t)
members-row text rows t h g =
    let m = members-meant text rows t (number_read rows t) g in
    rw (kind-read text rows t h) (rw (number-meant text rows t, eq-eqb (number_read rows t) (number_read rows t) refl) at m)
