-- What is read off a type's row to judge it (specs/Contents.antt) is what the rules say: a type is comparable if its kind may be and all is that it
-- contains by value.
use mathlib.Core.Path.{◌≡◌, refl, sym, ap, ◌∙◌}
use mathlib.Core.Bool.{Bool, true, false, not, ◌&&◌}
use mathlib.Core.List.{List, [], ◌∷◌, map}
use Prim.Native.Nat.{ℕ, ◌+◌, ◌<◌, ◌≤◌}
use native.Mathlib.Omega.{arith}
use lib.Dec.{eqb}
use lib.ListN.{length, get_or, set, replicate}
use lib.Seq.{get_or-set_other}
use borrow.Author.Tests.{eqb-true, eqb-false, not-true, not-false}
use Rattle.objects.specs.declared.TypeKey.{TypeKey}
use Rattle.objects.specs.declared.«Type».{«Type»}
use Rattle.objects.specs.Bounds.{word_values}
use Rattle.objects.specs.Lists.{Bytes, In, every, up_to}
use Rattle.objects.specs.Table.{Member, by_value, kind_at}
use Rattle.objects.specs.Rows.{Words, type_count, table_of, members_from}
use Rattle.objects.specs.Types.{kind_meant, type_read, first_read, total_read}
use Rattle.objects.proofs.ListLaws.{cases, clash, and_r, In-map, map-In-to}
use Rattle.objects.proofs.BoolLaws.{and_i, every-from, false_of}
use Rattle.objects.proofs.PartLaws.{every-In}
use Rattle.objects.proofs.Numbers.{up_to-has, up_to-below}
use Rattle.objects.proofs.RowLaws.{size-read}
use Rattle.rules.specs.Checks.{contents}
use Rattle.rules.specs.Comparable.{comparable_kind, comparable}
use Rattle.rules.specs.Library.{Library}
use Rattle.rules.specs.Sound.{Sound}
use Rattle.rules.proofs.RangeLaws.{content-in}
use Rattle.rules.proofs.ComparableLaws.{comparable-step}
use Rattle.rules.proofs.Sounds.{library-sound}
use Rattle.type_parts.proofs.Spans.{SpanIs, span-is, span_small}
use Rattle.type_parts.proofs.ReadLaws.{member-types, meant-at}
use Rattle.typ.specs.Contents.{may_compare_in, held_in, content_in, may_compare, content_count, content_at, MetComparable, Judged}
use Rattle.pair_marks.proofs.Zero.{get_or-zeros}
use Rattle.typ.proofs.Lower.{lower, lower-falls}

every_map : {A B : Type 0} (p : B → Bool) (f : A → B) (l : List A) → every p (map f l) ≡ every (λ x. p (f x)) l
every_map p f [] = refl
every_map p f (x ∷ l) = ap (λ b. p (f x) && b) (every_map p f l)

and-true : (b : Bool) → b && true ≡ b
and-true true = refl
and-true false = refl

module _ (text : Bytes) (rows : Words) where
  kind-meant : (R : TypeKey → Bool) (ty : «Type») → comparable_kind R (kind_meant text rows ty) ≡ may_compare_in ty && every R (by_value (kind_meant text rows ty))
  unfolding comparable_kind kind_meant may_compare_in
  kind-meant R («Type».Basic k) = sym (and-true _)
  kind-meant R («Type».Array n e) = sym (and-true _)
  kind-meant R («Type».Slice e) = refl
  kind-meant R («Type».Pointer e) = refl
  kind-meant R («Type».Map k e) = refl
  kind-meant R («Type».Chan d e) = refl
  kind-meant R («Type».Tuple first count) = refl
  kind-meant R («Type».Func v p r) = refl
  kind-meant R («Type».Struct first count) = sym (every_map R (λ (m : Member). m.type) (members_from text rows first count))
  kind-meant R («Type».Iface first count) = refl
  kind-meant R («Type».Named u first count) = sym (and-true _)

  held-meant : (ty : «Type») → by_value (kind_meant text rows ty) ≡ map (content_in rows ty) (up_to (held_in ty))
  unfolding kind_meant held_in content_in
  held-meant («Type».Basic k) = refl
  held-meant («Type».Array n e) = refl
  held-meant («Type».Slice e) = refl
  held-meant («Type».Pointer e) = refl
  held-meant («Type».Map k e) = refl
  held-meant («Type».Chan d e) = refl
  held-meant («Type».Tuple first count) = refl
  held-meant («Type».Func v p r) = refl
  held-meant («Type».Struct first count) = member-types text rows first count
  held-meant («Type».Iface first count) = refl
  held-meant («Type».Named u first count) = refl

  module _ (t : TypeKey) (h : t.0 < type_count rows) where
    pub contents-read : contents (table_of text rows) t ≡ map (content_at rows t) (up_to (content_count rows t))
    unfolding content_at content_count
    contents-read = ap by_value (meant-at text rows t h) ∙ held-meant (type_read rows t)

    pub content-has : (i : ℕ) → i < content_count rows t → In (content_at rows t i) (contents (table_of text rows) t)
    content-has i k = rw contents-read (map-In-to (content_at rows t) (up_to (content_count rows t)) i (up_to-has (content_count rows t) i k))

    kind-at : (R : TypeKey → Bool) → comparable_kind R (kind_at (table_of text rows) t) ≡ may_compare rows t && every R (contents (table_of text rows) t)
    unfolding may_compare
    kind-at R = rw (meant-at text rows t h) (kind-meant R (type_read rows t))

-- a place among what it contains is a small number
held_small : (first count : ℕ) (ty : «Type») → SpanIs first count ty → held_in ty ≤ count + 2
unfolding held_in
held_small first count («Type».Basic k) s = omega arith
held_small first count («Type».Array n e) s = omega arith
held_small first count («Type».Slice e) s = omega arith
held_small first count («Type».Pointer e) s = omega arith
held_small first count («Type».Map k e) s = omega arith
held_small first count («Type».Chan d e) s = omega arith
held_small first count («Type».Tuple f n) s = omega arith
held_small first count («Type».Func v p r) s = omega arith
held_small first count («Type».Struct f n) s = let e = s.1 in omega arith
held_small first count («Type».Iface f n) s = omega arith
held_small first count («Type».Named u f n) s = omega arith

-- ---- the answers of `comparable_impl`, in the terms of what its code knows at each place

-- the first i that t contains are comparable
abbrev pub Passed : Bytes → Words → TypeKey → ℕ → Type 0
Passed text rows t i = (k : ℕ) → k < i → comparable (table_of text rows) (content_at rows t k) ≡ true

module _ (text : Bytes) (rows : Words) (lib : Library text rows) (t : TypeKey) (h : t.0 < type_count rows) where
  sound : Sound (table_of text rows)
  sound = library-sound lib

  step : comparable (table_of text rows) t ≡ may_compare rows t && every (comparable (table_of text rows)) (contents (table_of text rows) t)
  step = comparable-step (table_of text rows) sound t ∙ kind-at text rows t h (comparable (table_of text rows))

  pub held_place : (i n : ℕ) → n ≡ content_count rows t → i < n → first_read rows t + i < word_values
  unfolding content_count
  held_place i n e k = omega (arith, span_small rows t lib.laid h, held_small (first_read rows t) (total_read rows t) (type_read rows t) (span-is rows t))

  pub was-met : (met : List ℕ) → MetComparable text rows met → (get_or met t.0 0 ≡ 0 → ⊥) → Judged text rows met t true
  unfolding MetComparable
  was-met met m e = record { judged = sym (m t.0 h e); sound = m }

  pub may-not : (met : List ℕ) (r : Bool) → MetComparable text rows met → r ≡ may_compare rows t → not r ≡ true → Judged text rows met t false
  may-not met r m e z = record { judged = sym (step ∙ rw (sym e ∙ not-true r z)); sound = m }

  module _ (n : ℕ) (is : n ≡ content_count rows t) (i : ℕ) (k : i < n) (e : TypeKey) (f : e ≡ content_at rows t i) where
    content-of : In e (contents (table_of text rows) t)
    content-of = rw f (content-has text rows t h i (rw is at k))

    pub content-inside : e.0 < type_count rows
    content-inside = let r = content-in (table_of text rows) sound t e content-of in rw (size-read text rows) at r

    pub content-lower : lower rows e < lower rows t
    content-lower = lower-falls rows e t content-inside (lib.ranked t e h content-of)

    pub content-not : (met : List ℕ) (r : Bool) → Judged text rows met e r → not r ≡ true → Judged text rows met t false
    content-not met r j z = record {
      judged = sym (false_of (comparable (table_of text rows) t) (λ q. clash
          (every-In (comparable (table_of text rows)) (contents (table_of text rows) t) e (and_r (may_compare rows t) (every (comparable (table_of text rows)) (contents (table_of text rows) t)) (sym step ∙ q)) content-of)
          (sym j.judged ∙ not-true r z)));
      sound = j.sound;
    }

    pub content-is : (met : List ℕ) (r : Bool) → Judged text rows met e r → not r ≡ false → comparable (table_of text rows) (content_at rows t i) ≡ true
    content-is met r j z = rw (← f) (sym j.judged ∙ not-false r z)

  pub all-passed : (r : Bool) (n i : ℕ) → r ≡ may_compare rows t → not r ≡ false → n ≡ content_count rows t → n ≤ i → Passed text rows t i → comparable (table_of text rows) t ≡ true
  all-passed r n i e z is l p = step ∙ and_i (sym e ∙ not-false r z) (every-from (comparable (table_of text rows)) (contents (table_of text rows) t) one)
    where
      one : (x : TypeKey) → In x (contents (table_of text rows) t) → comparable (table_of text rows) x ≡ true
      one x j =
          let c = In-map (content_at rows t) (up_to (content_count rows t)) x (rw (contents-read text rows t h) at j) in
          let b = up_to-below (content_count rows t) c.0 c.1 in
          rw c.2 (p c.0 (omega arith))

  pub now-met : (met : List ℕ) → MetComparable text rows met → comparable (table_of text rows) t ≡ true → MetComparable text rows (set met t.0 1)
  unfolding MetComparable
  now-met met m e u hu z =
      cases (eqb u t.0)
      (λ q. let w : u ≡ t.0 = eqb-true u t.0 q in rw w e)
      (λ q. m u hu (λ v. z (get_or-set_other met t.0 u 1 0 (eqb-false u t.0 q) ∙ v)))

pub none-comparable : (text : Bytes) (rows : Words) (met : List ℕ) → met ≡ replicate (length met) 0 → MetComparable text rows met
unfolding MetComparable
none-comparable text rows met e t h z = absurd (z (ap (λ (l : List ℕ). get_or l t 0) e ∙ get_or-zeros (length met) t))
