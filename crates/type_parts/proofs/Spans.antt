-- Where the members or elements of a type stand: the numbers that its row says (`SpanIs`), and that they are small.
use mathlib.Core.Path.{◌≡◌, refl}
use mathlib.Core.List.{[]}
use Prim.Native.Nat.{ℕ, ◌+◌, ◌<◌, ◌≤◌}
use native.Mathlib.Omega.{arith}
use Rattle.objects.specs.declared.TypeKey.{TypeKey}
use Rattle.objects.specs.declared.«Type».{«Type»}
use Rattle.objects.specs.Bounds.{max_elements}
use Rattle.objects.specs.Rows.{Words, type_count, type_word, element_count, member_count_of}
use Rattle.objects.specs.Types.{type_from, type_read, first_read, total_read}
use Rattle.objects.specs.Laid.{Laid, end_of}
use Rattle.objects.proofs.ListLaws.{cases}
use Rattle.objects.proofs.RowLaws.{by_kind, named-type}
use lib.Dec.{eqb}

-- the first member or element that it says, and how many
abbrev pub SpanIs : ℕ → ℕ → «Type» → Type 0
SpanIs first count («Type».Basic k) = Unit {0}
SpanIs first count («Type».Array n e) = Unit {0}
SpanIs first count («Type».Slice e) = Unit {0}
SpanIs first count («Type».Pointer e) = Unit {0}
SpanIs first count («Type».Map k e) = Unit {0}
SpanIs first count («Type».Chan d e) = Unit {0}
SpanIs first count («Type».Tuple f n) = (f ≡ first) × (n ≡ count)
SpanIs first count («Type».Func v p r) = Unit {0}
SpanIs first count («Type».Struct f n) = (f ≡ first) × (n ≡ count)
SpanIs first count («Type».Iface f n) = (f ≡ first) × (n ≡ count)
SpanIs first count («Type».Named u f n) = (f ≡ first) × (n ≡ count)

span-from : (a b c first count k : ℕ) → SpanIs first count (type_from k a b c first count)
unfolding type_from
span-from a b c first count =
    by_kind (λ k. SpanIs first count (type_from k a b c first count)) tt tt tt tt tt tt (refl, refl) tt (refl, refl) (refl, refl)
    (λ k h. rw (named-type [] [] a b c first count k h) (refl, refl))

module _ (rows : Words) (t : TypeKey) where
  pub span-is : SpanIs (first_read rows t) (total_read rows t) (type_read rows t)
  unfolding type_read first_read total_read
  span-is = span-from (type_word rows t 1) (type_word rows t 2) (type_word rows t 3) (type_word rows t 4) (type_word rows t 5) (type_word rows t 0)

  -- no member or element is numbered higher than there are elements at most
  pub span_small : Laid rows → t.0 < type_count rows → first_read rows t + total_read rows t ≤ max_elements
  unfolding first_read total_read end_of
  span_small l h =
      let w = l.within t h in
      cases (eqb (type_word rows t 0) 6)
      (λ e. let v : type_word rows t 4 + type_word rows t 5 ≤ element_count rows = rw e at w in omega (arith, l.elements))
      (λ e. let v : type_word rows t 4 + type_word rows t 5 ≤ member_count_of rows = rw e at w in omega (arith, l.members))
