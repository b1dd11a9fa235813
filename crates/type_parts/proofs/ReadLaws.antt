-- What is read off a type's row (specs/Parts.antt) is what the rules say of the table that the rows hold: its own number and its parts.
use mathlib.Core.Path.{◌≡◌, refl, sym, ap, ◌∙◌}
use mathlib.Core.Bool.{false}
use mathlib.Core.List.{map, append-nil}
use mathlib.Core.Logic.{◌⊎◌, inl, inr}
use Prim.Native.Nat.{ℕ, suc, ◌+◌, ◌-◌, ◌<◌, ◌≤◌}
use native.Mathlib.Omega.{arith}
use lib.Dec.{eqb}
use borrow.Author.Tests.{ne_eqb, eq-eqb}
use Rattle.objects.specs.Bounds.{word_values}
use Rattle.objects.specs.declared.TypeKey.{TypeKey}
use Rattle.objects.specs.declared.«Type».{«Type»}
use Rattle.objects.specs.Lists.{Bytes, up_to}
use Rattle.objects.specs.Table.{Member, type_key, obj_key, kind_at}
use Rattle.objects.specs.Rows.{Words, type_count, type_word, from, element_at, member_at, elements_from, members_from, table_of}
use Rattle.objects.specs.Types.{kind_meant, type_read, number_read, first_read, total_read, member_type_read}
use Rattle.objects.specs.Laid.{Laid}
use Rattle.objects.proofs.ListLaws.{map-map}
use Rattle.objects.proofs.Reading.{is-tuple, is-func, is-struct, is-iface}
use Rattle.objects.proofs.RowLaws.{type-meant, kind-read, members-length, elements-length}
use Rattle.rules.specs.Identity.{real_type, own_number, parts}
use Rattle.type_parts.specs.Parts.{own_in, count_in, part_in, own_read, part_count, part_at, same_numbers}
use Rattle.type_parts.proofs.Spans.{SpanIs, span-is, span_small}

module _ (text : Bytes) (rows : Words) where
  own-meant : (t : TypeKey) (ty : «Type») → own_number t (kind_meant text rows ty) ≡ own_in t ty
  unfolding own_number kind_meant own_in
  own-meant t («Type».Basic k) = refl
  own-meant t («Type».Array n e) = refl
  own-meant t («Type».Slice e) = refl
  own-meant t («Type».Pointer e) = refl
  own-meant t («Type».Map k e) = refl
  own-meant t («Type».Chan d e) = refl
  own-meant t («Type».Tuple first count) = elements-length text rows first count
  own-meant t («Type».Func v p r) = refl
  own-meant t («Type».Struct first count) = members-length text rows first count
  own-meant t («Type».Iface first count) = members-length text rows first count
  own-meant t («Type».Named u first count) = refl

  -- the types of n members from a first one on
  pub member-types : (first n : ℕ) → map (λ (m : Member). m.type) (members_from text rows first n) ≡ map (λ i. member_type_read rows (obj_key (first + i))) (up_to n)
  unfolding members_from member_at member_type_read
  member-types first n = map-map (λ (m : Member). m.type) (λ i. member_at text rows (obj_key i)) (from first n) ∙ map-map (λ i. member_type_read rows (obj_key i)) (λ i. first + i) (up_to n)

  parts-meant : (ty : «Type») → parts (kind_meant text rows ty) ≡ map (part_in rows ty) (up_to (count_in ty))
  unfolding parts kind_meant part_in count_in elements_from
  parts-meant («Type».Basic k) = refl
  parts-meant («Type».Array n e) = refl
  parts-meant («Type».Slice e) = refl
  parts-meant («Type».Pointer e) = refl
  parts-meant («Type».Map k e) = refl
  parts-meant («Type».Chan d e) = refl
  parts-meant («Type».Tuple first count) = append-nil (elements_from text rows first count) ∙ map-map (element_at rows) (λ i. first + i) (up_to count)
  parts-meant («Type».Func v p r) = refl
  parts-meant («Type».Struct first count) = member-types first count
  parts-meant («Type».Iface first count) = member-types first count
  parts-meant («Type».Named u first count) = refl

  module _ (t : TypeKey) (h : t.0 < type_count rows) where
    pub meant-at : kind_at (table_of text rows) t ≡ kind_meant text rows (type_read rows t)
    meant-at = kind-read text rows t h ∙ sym (type-meant text rows t)

    pub own-read : own_number t (kind_at (table_of text rows) t) ≡ own_read rows t
    unfolding own_read
    own-read = ap (own_number t) meant-at ∙ own-meant t (type_read rows t)

    pub parts-read : parts (kind_at (table_of text rows) t) ≡ map (part_at rows t) (up_to (part_count rows t))
    unfolding part_at part_count
    parts-read = ap parts meant-at ∙ parts-meant (type_read rows t)

-- a part's place is a small number
count_small : (first count : ℕ) (ty : «Type») → SpanIs first count ty → count_in ty ≤ count + 2
unfolding count_in
count_small first count («Type».Basic k) s = omega arith
count_small first count («Type».Array n e) s = omega arith
count_small first count («Type».Slice e) s = omega arith
count_small first count («Type».Pointer e) s = omega arith
count_small first count («Type».Map k e) s = omega arith
count_small first count («Type».Chan d e) s = omega arith
count_small first count («Type».Tuple f n) s = let e = s.1 in omega arith
count_small first count («Type».Func v p r) s = omega arith
count_small first count («Type».Struct f n) s = let e = s.1 in omega arith
count_small first count («Type».Iface f n) s = let e = s.1 in omega arith
count_small first count («Type».Named u f n) s = omega arith

pub place-small : (rows : Words) (t : TypeKey) (i : ℕ) → Laid rows → t.0 < type_count rows → i < part_count rows t → first_read rows t + i < word_values
unfolding part_count
place-small rows t i l h k = omega (arith, span_small rows t l h, count_small (first_read rows t) (total_read rows t) (type_read rows t) (span-is rows t))

-- what the readers give once the row is known to say `con`
module _ (rows : Words) (t : TypeKey) {ty con : «Type»} (e : ty ≡ type_read rows t) (f : ty ≡ con) where
  pub own-as : own_in t con ≡ own_read rows t
  unfolding own_read
  own-as = ap (own_in t) (sym f ∙ e)

  pub part-as : (i : ℕ) → part_in rows con i ≡ part_at rows t i
  unfolding part_at
  part-as i = ap (λ k. part_in rows k i) (sym f ∙ e)

  -- the first of two, and the second
  pub part-first : (i : ℕ) → i ≡ 0 → part_in rows con 0 ≡ part_at rows t i
  part-first i z = rw (sym z) (part-as i)

  pub part-second : (i : ℕ) → (i ≡ 0 → ⊥) → part_in rows con (suc (i - 1)) ≡ part_at rows t i
  part-second i n = let z : suc (i - 1) ≡ i = omega arith in rw z (part-as i)

  pub span-as : SpanIs (first_read rows t) (total_read rows t) con
  span-as = rw (sym f ∙ e) (span-is rows t)

-- what a reader gives of a row whose kind it has read
module _ (rows : Words) (t : TypeKey) {k : ℕ} (k-is : k ≡ type_word rows t 0) where
  pub member-own : {r : ℕ} → (k ≡ 8) ⊎ (k ≡ 9) → r ≡ total_read rows t → r ≡ own_read rows t
  unfolding own_in total_read
  member-own (inl q) e = own-as rows t (is-struct rows t k-is refl refl refl e q) refl
  member-own (inr q) e = own-as rows t (is-iface rows t k-is refl refl refl e q) refl

  pub element-own : {r : ℕ} → k ≡ 6 → r ≡ total_read rows t → r ≡ own_read rows t
  unfolding own_in total_read
  element-own q e = own-as rows t (is-tuple rows t k-is refl refl refl e q) refl

  pub member-part : (i first : ℕ) {r : TypeKey} → (k ≡ 8) ⊎ (k ≡ 9) → first ≡ first_read rows t → r ≡ member_type_read rows (obj_key (first + i)) → r ≡ part_at rows t i
  unfolding part_in first_read
  member-part i first (inl q) f e = e ∙ part-as rows t (is-struct rows t k-is refl refl f refl q) refl i
  member-part i first (inr q) f e = e ∙ part-as rows t (is-iface rows t k-is refl refl f refl q) refl i

  pub element-part : (i first : ℕ) {r : TypeKey} → k ≡ 6 → first ≡ first_read rows t → r ≡ element_at rows (first + i) → r ≡ part_at rows t i
  unfolding part_in first_read
  element-part i first q f e = e ∙ part-as rows t (is-tuple rows t k-is refl refl f refl q) refl i

  pub params-part : (i w : ℕ) → k ≡ 7 → i ≡ 0 → w ≡ type_word rows t 2 → type_key w ≡ part_at rows t i
  unfolding part_in
  params-part i w q z e = part-first rows t (is-func rows t k-is refl e refl refl refl q) refl i z

  pub results-part : (i w : ℕ) → k ≡ 7 → (i ≡ 0 → ⊥) → w ≡ type_word rows t 3 → type_key w ≡ part_at rows t i
  unfolding part_in
  results-part i w q n e = part-second rows t (is-func rows t k-is refl refl refl refl e q) refl i n

-- ---- the numbers of two types, as code reads them

module _ (rows : Words) (x y : TypeKey) (a b : ℕ) where
  pub kinds-other : a ≡ number_read rows x → b ≡ number_read rows y → (a ≡ b → ⊥) → false ≡ same_numbers rows x y
  unfolding same_numbers
  kinds-other p q h = rw (← p, ← q, ne_eqb a b h)

  pub owns-tell : (c d : ℕ) → a ≡ number_read rows x → b ≡ number_read rows y → a ≡ b → c ≡ own_read rows x → d ≡ own_read rows y → eqb c d ≡ same_numbers rows x y
  unfolding same_numbers
  owns-tell c d p q e r s = rw (← p, ← q, ← r, ← s, eq-eqb a b e)

-- "Byte is Uint8, Rune is Int32"
pub real-byte : (k : ℕ) → k ≡ 26 → 8 ≡ real_type k
unfolding real_type
real-byte k e = rw e

pub real-rune : (k : ℕ) → k ≡ 27 → 5 ≡ real_type k
unfolding real_type
real-rune k e = rw e

pub real-rest : (k : ℕ) → (k ≡ 26 → ⊥) → (k ≡ 27 → ⊥) → k ≡ real_type k
unfolding real_type
real-rest k p q = rw (ne_eqb k 26 p, ne_eqb k 27 q)
