-- Reading a list of methods from position to position (specs/Positions.antt): each step, and that the whole is the list of the interface.
use mathlib.Core.Path.{◌≡◌, refl, sym, ap, ◌∙◌}
use mathlib.Core.Bool.{true}
use mathlib.Core.List.{List, [], ◌∷◌, map}
use mathlib.Core.Logic.{inl, inr}
use Prim.Native.Nat.{ℕ, zero, suc, ◌+◌, ◌≤◌, ◌<◌}
use native.Mathlib.Omega.{arith}
use borrow.Author.Tests.{eqb-true}
use Rattle.objects.specs.Bounds.{max_elements}
use Rattle.objects.specs.Lists.{Bytes, In}
use Rattle.objects.specs.declared.TypeKey.{TypeKey}
use Rattle.objects.specs.declared.ObjKey.{ObjKey}
use Rattle.objects.specs.Table.{obj_key, kind_number, is_iface, kind_at}
use Rattle.objects.specs.Rows.{Words, type_count, member_at, members_from, table_of}
use Rattle.objects.specs.Types.{first_read, total_read, number_read}
use Rattle.objects.specs.Laid.{Laid}
use Rattle.objects.proofs.RowLaws.{members-cons, number-read}
use Rattle.objects.proofs.SpanLaws.{span_small, span-within, members-row}
use Rattle.rules.proofs.MethodLists.{own-list}
use Rattle.method_lists.specs.Positions.{first_position, positions_end, next_position, method_at, Reads, ListRead}

module _ (rows : Words) (i : TypeKey) where
  -- ---- one step

  -- below the end there is a method, and the rest is read from the next position on
  pub reads_more : (at : ℕ) (ms : List ObjKey) → Reads rows i at ms → at < positions_end rows i → (rest : List ObjKey) × (ms ≡ method_at rows i at ∷ rest) × Reads rows i (next_position rows i at) rest
  reads_more at [] r h = absurd (omega arith)
  reads_more at (m ∷ ms) r h = (ms, ap (λ k. k ∷ ms) r.1, r.2)

  pub reads-done : (at : ℕ) (ms : List ObjKey) → Reads rows i at ms → positions_end rows i ≤ at → ms ≡ []
  reads-done at [] r h = refl
  reads-done at (m ∷ ms) r h = absurd (omega arith)

  -- positions rise
  pub next-rises : (at : ℕ) → at < next_position rows i at
  unfolding next_position
  next-rises at = omega arith

  -- and are small
  pub end-small : Laid rows → i.0 < type_count rows → first_read rows i + positions_end rows i ≤ max_elements
  unfolding positions_end
  end-small laid h = span_small rows i laid h

  -- the method at a position, by the first of the row
  pub method-is : (at : ℕ) {first : ℕ} → first ≡ first_read rows i → obj_key (first + at) ≡ method_at rows i at
  unfolding method_at
  method-is at e = ap (λ k. obj_key (k + at)) e

-- ---- the whole list

module _ (text : Bytes) (rows : Words) (i : TypeKey) where
  -- the keys of n methods from position `at` on
  keys_from : ℕ → ℕ → List ObjKey
  keys_from at zero = []
  keys_from at (suc n) = method_at rows i at ∷ keys_from (next_position rows i at) n

  keys-read : (at n : ℕ) → at + n ≡ positions_end rows i → Reads rows i at (keys_from at n)
  unfolding keys_from next_position
  keys-read at zero e = omega arith
  keys-read at (suc n) e = (omega arith, refl, keys-read (at + 1) n (omega arith))

  keys-are : (at n : ℕ) → map (member_at text rows) (keys_from at n) ≡ members_from text rows (first_read rows i + at) n
  unfolding keys_from next_position method_at members_from
  keys-are at zero = refl
  keys-are at (suc n) =
      let behind : first_read rows i + (at + 1) ≡ suc (first_read rows i + at) = omega arith in
      ap (λ l. member_at text rows (obj_key (first_read rows i + at)) ∷ l) (keys-are (at + 1) n ∙ ap (λ k. members_from text rows k n) behind) ∙ sym (members-cons text rows (first_read rows i + at) n)

  keys-known : (at n : ℕ) (m : ObjKey) → In m (keys_from at n) → m.0 < first_read rows i + at + n
  unfolding keys_from next_position method_at
  keys-known at zero m x' = elim x' [ ]
  keys-known at (suc n) m (inl e) = rw e (omega arith)
  keys-known at (suc n) m (inr j) = let h = keys-known (at + 1) n m j in omega arith

  -- THE LIST OF AN INTERFACE IS WHAT IS READ
  pub list_read : Laid rows → i.0 < type_count rows → is_iface (kind_at (table_of text rows) i) ≡ true → ListRead text rows i
  unfolding first_position positions_end
  list_read laid h face =
      let number : number_read rows i ≡ 9 = sym (number-read text rows i h) ∙ eqb-true (kind_number (kind_at (table_of text rows) i)) 9 face in
      let many : 8 ≤ number_read rows i = omega (arith, number) in
      let start : first_read rows i + 0 ≡ first_read rows i = omega arith in
      let within = span-within rows i laid h many in
      record {
        methods = keys_from 0 (total_read rows i);
        reads = keys-read 0 (total_read rows i) (omega arith);
        are = keys-are 0 (total_read rows i) ∙ ap (λ k. members_from text rows k (total_read rows i)) start ∙ sym (own-list (table_of text rows) i face ∙ members-row text rows i h many);
        known = λ m j. let k = keys-known 0 (total_read rows i) m j in omega arith;
      }
