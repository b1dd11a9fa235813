-- The text of the tidied table is no longer than that of the table: fewer types, and no reference of more digits.
use mathlib.Core.Path.{◌≡◌, refl, ap, subst, ◌∙◌}
use mathlib.Core.Bool.{Bool}
use mathlib.Core.List.{List, [], ◌∷◌, ◌++◌, map}
use mathlib.Core.Logic.{inl, inr}
use Prim.Native.Nat.{ℕ, zero, suc, ◌+◌, ◌/◌, ◌^◌, ◌≤◌, ◌<◌}
use native.Mathlib.Omega.{arith}
use lib.Dec.{ltb}
use lib.ListN.{length}
use borrow.Author.Tests.{ltb-true, ltb-false}
use Rattle.objects.specs.Lists.{Bytes, In, keep, flat, up_to}
use Rattle.objects.specs.declared.TypeKey.{TypeKey}
use Rattle.objects.specs.declared.PackageKey.{PackageKey}
use Rattle.objects.specs.Table.{Table, size, type_key, same_type, Entity, Field, Method, Member, Kind, Basic, Array, Slice}
use Rattle.objects.specs.Table.{Pointer, Map, Chan, Tuple, Func, Struct, Iface, Named, refs, members_of, kind_at}
use Rattle.objects.proofs.ListLaws.{cases, map-append, keep-swap}
use Rattle.objects.proofs.Numbers.{each-length}
use Rattle.text.specs.Bytes.{decimal}
use Rattle.print.proofs.DecimalLaws.{decimal-one, decimal-more}
use Rattle.rules.specs.Forms.{Line, package_line, member_line}
use Rattle.rules.specs.Sound.{Sound}
use Rattle.edits.specs.Carried.{carry_member, carry_kind}
use Rattle.edits.specs.Tidy.{all_types, least, remaining, tidy_type, tidied}
use Rattle.edits.proofs.CarriedLaws.{package-same, carry-members}
use Rattle.carry.proofs.Twins.{least-is}
use Rattle.carry.proofs.TidyMaps.{tidied_lines}
use Rattle.carry.proofs.TidySound.{all_kinds, keep-few}
use Rattle.edits.specs.TableText.{type_bytes, line_of_type, line_of_member, lines_of_kind, lines_of, text_of}
use Rattle.table_text.specs.Numbered.{sum, line_size, text_size}
use Rattle.table_text.proofs.Sizes.{text-length, sum-append}
use Rattle.tidy.proofs.NumberLaws.{keep-below}
use Rattle.table_text.proofs.AssembledText.{assembled-lines}

-- ---- a smaller number has no more digits

decimal-some : (n : ℕ) → n < 2 ^ 32 → 1 ≤ length (decimal n)
decimal-some n h = cases (ltb n 10) (λ e. let r = decimal-one n (ltb-true n 10 e) in omega arith) (λ e. let r = decimal-more n h (ltb-false n 10 e) in omega arith)

digits-grow : (k a b : ℕ) → b ≤ k → a ≤ b → b < 2 ^ 32 → length (decimal a) ≤ length (decimal b)
digits-grow zero a b hk h l = let z : a ≡ b = omega arith in rw z (omega arith)
digits-grow (suc k) a b hk h l =
    cases (ltb a 10)
    (λ e. let r = decimal-one a (ltb-true a 10 e) in let s = decimal-some b l in omega arith)
    (λ e.
    let g = ltb-false a 10 e in
    let i = digits-grow k (a / 10) (b / 10) (omega arith) (omega arith) (omega arith) in
    let r = decimal-more a (omega arith) g in
    let s = decimal-more b l (omega arith) in
    omega arith)

decimal-grows : (a b : ℕ) → a ≤ b → b < 2 ^ 32 → length (decimal a) ≤ length (decimal b)
decimal-grows a b = digits-grow b a b (omega arith)

-- ---- lines with shorter references

fields_size : List Bytes → ℕ
fields_size fs = sum (map (λ (s : Bytes). 1 + length s) fs)

lines_size : List Line → ℕ
lines_size ls = sum (map line_size ls)

lines-append : (ls ms : List Line) → lines_size (ls ++ ms) ≡ lines_size ls + lines_size ms
unfolding lines_size
lines-append ls ms = ap sum (map-append line_size ls ms) ∙ sum-append (map line_size ls) (map line_size ms)

module _ (f : TypeKey → TypeKey) where
  -- what f makes of e takes no more digits
  abbrev Shrinks : TypeKey → Type 0
  Shrinks e = length (decimal (f e).0) ≤ length (decimal e.0)

  abbrev carried : Kind → Kind
  carried = carry_kind f (λ (p : PackageKey). p)

  abbrev carried_member : Member → Member
  carried_member = carry_member f (λ (p : PackageKey). p)

  elements-shrink : (es : List TypeKey) → ((e : TypeKey) → In e es → Shrinks e) → fields_size (map type_bytes (map f es)) ≤ fields_size (map type_bytes es)
  unfolding fields_size
  elements-shrink [] h = omega arith
  elements-shrink (e ∷ es) h = let a = h e (inl refl) in let r = elements-shrink es (λ x i. h x (inr i)) in omega arith

  type-shrinks : (k : Kind) → ((e : TypeKey) → In e (refs k) → Shrinks e) → line_size (line_of_type (carried k)) ≤ line_size (line_of_type k)
  unfolding line_size
  type-shrinks (Basic k) h = omega arith
  type-shrinks (Array n e) h = omega (arith, h e (inl refl))
  type-shrinks (Slice e) h = omega (arith, h e (inl refl))
  type-shrinks (Pointer e) h = omega (arith, h e (inl refl))
  type-shrinks (Map k e) h = omega (arith, h k (inl refl), h e (inr (inl refl)))
  type-shrinks (Chan d e) h = omega (arith, h e (inl refl))
  type-shrinks (Tuple es) h = unfold fields_size in omega (arith, elements-shrink es h)
  type-shrinks (Func v a r) h = omega (arith, h a (inl refl), h r (inr (inl refl)))
  type-shrinks (Struct ms) h = omega arith
  type-shrinks (Iface ms) h = omega arith
  type-shrinks (Named u ms) h = omega (arith, h u (inl refl))

  member-shrinks : (m : Member) → Shrinks m.type → line_size (line_of_member (carried_member m)) ≤ line_size (line_of_member m)
  member-shrinks m s = rw (package-same m.pkg) (go m.entity)
    where
      go : (e : Entity) → line_size (member_line m.name m.pkg (f m.type) e) ≤ line_size (member_line m.name m.pkg m.type e)
      go (Field b t) = unfold line_size in omega (arith, s)
      go (Method b) = unfold line_size in omega (arith, s)

  members-shrink : (ms : List Member) → ((m : Member) → In m ms → Shrinks m.type) → lines_size (map line_of_member (map carried_member ms)) ≤ lines_size (map line_of_member ms)
  unfolding lines_size
  members-shrink [] h = omega arith
  members-shrink (m ∷ ms) h = let a = member-shrinks m (h m (inl refl)) in let r = members-shrink ms (λ o i. h o (inr i)) in omega arith

  kind-shrinks : (k : Kind) → ((e : TypeKey) → In e (refs k) → Shrinks e) → ((m : Member) → In m (members_of k) → Shrinks m.type) → lines_size (lines_of_kind (carried k)) ≤ lines_size (lines_of_kind k)
  unfolding lines_size
  kind-shrinks k h g =
      let a = type-shrinks k h in
      let b = members-shrink (members_of k) g in
      rw (carry-members f (λ (p : PackageKey). p) k) (omega arith)

  -- fewer kinds, each with shorter references
  kinds-shrink : {A : Type 0} (kind : A → Kind) (p : A → Bool) (l : List A)
      → ((t : A) → In t l → ((e : TypeKey) → In e (refs (kind t)) → Shrinks e) × ((m : Member) → In m (members_of (kind t)) → Shrinks m.type))
      → lines_size (flat lines_of_kind (map (λ t. carried (kind t)) (keep p l))) ≤ lines_size (flat lines_of_kind (map kind l))
  kinds-shrink kind p [] h = omega arith
  kinds-shrink kind p (t ∷ l) h =
      let r = kinds-shrink kind p l (λ u i. h u (inr i)) in
      let z = h t (inl refl) in
      let s = kind-shrinks (kind t) z.0 z.1 in
      let b = lines-append (lines_of_kind (kind t)) (flat lines_of_kind (map kind l)) in
      cases (p t)
      (λ e. let a = lines-append (lines_of_kind (carried (kind t))) (flat lines_of_kind (map (λ t. carried (kind t)) (keep p l))) in rw e (omega arith))
      (λ e. rw e (omega arith))

-- ---- the tidied table

module _ (T : Table) (sound : Sound T) where
  -- no type gets a greater number
  tidy-low : (t : TypeKey) → t.0 < size T → (tidy_type T t).0 ≤ t.0
  unfolding tidy_type remaining
  tidy-low t h =
      let r = least-is T sound t h in
      let l : (least T t).0 ≤ t.0 = r.2 in
      let i : (least T t).0 < size T = r.0 in
      let own : TypeKey → Bool = λ u. same_type (least T u) u in
      let few = keep-few own (map type_key (up_to (least T t).0)) in
      let long = each-length type_key (least T t).0 in
      rw (keep-swap (λ (u : TypeKey). ltb u.0 (least T t).0) own (all_types T), keep-below (least T t).0 (size T) (omega arith)) (omega arith)

  shrinks : (t : TypeKey) → t.0 < size T → Shrinks (tidy_type T) t
  shrinks t h = let few = sound.few_types in decimal-grows (tidy_type T t).0 t.0 (tidy-low t h) (omega arith)

  types-shrink : lines_size (flat lines_of_kind (map (tidied_lines T) (remaining T))) ≤ lines_size (flat lines_of_kind T.types)
  unfolding remaining
  types-shrink =
      subst (λ ks. lines_size (flat lines_of_kind (map (tidied_lines T) (remaining T))) ≤ lines_size (flat lines_of_kind ks)) (all_kinds T)
      (kinds-shrink (tidy_type T) (kind_at T) (λ u. same_type (least T u) u) (all_types T) (λ t i. (λ e j. shrinks e (sound.refers t e j), λ m j. shrinks m.type (sound.typed t m j))))

  tidied-size : text_size (tidied T) ≡ 12 + (lines_size (map package_line T.packages) + lines_size (flat lines_of_kind (map (tidied_lines T) (remaining T))))
  unfolding tidied text_size lines_size
  tidied-size =
      ap (λ ls. 12 + sum (map line_size ls)) (assembled-lines T.packages (map (tidied_lines T) (remaining T)))
      ∙ ap (λ n. 12 + n) (lines-append (map package_line T.packages) (flat lines_of_kind (map (tidied_lines T) (remaining T))))

  old-size : text_size T ≡ 12 + (lines_size (map package_line T.packages) + lines_size (flat lines_of_kind T.types))
  unfolding text_size lines_size lines_of
  old-size = ap (λ n. 12 + n) (lines-append (map package_line T.packages) (flat lines_of_kind T.types))

  -- THE TIDIED TEXT IS NO LONGER
  pub text-shorter : length (text_of (tidied T)) ≤ length (text_of T)
  text-shorter = omega (arith, text-length (tidied T), text-length T, tidied-size, old-size, types-shrink)
