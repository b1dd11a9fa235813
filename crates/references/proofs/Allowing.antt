-- What a line may refer to (8), by the numbers of the kinds that the code reads.
use mathlib.Core.Path.{◌≡◌, refl, sym, ap, ◌∙◌}
use mathlib.Core.Bool.{Bool, true, false, not, ◌&&◌, ◌||◌}
use mathlib.Core.List.{List, [], ◌∷◌, ◌++◌}
use Prim.Native.Nat.{ℕ, suc, ◌+◌, ◌-◌, ◌<◌, ◌≤◌}
use native.Mathlib.Omega.{arith}
use lib.Dec.{eqb, ltb}
use borrow.Author.Tests.{ne_eqb, eqb-true, lt-ltb}
use Rattle.objects.specs.declared.TypeKey.{TypeKey}
use Rattle.objects.specs.declared.ObjKey.{ObjKey}
use Rattle.objects.specs.Lists.{Bytes, every}
use Rattle.objects.specs.Table.{Table, Entity, Field, Method, Member, Kind, Basic, Array, Slice, Pointer, Map, Chan, Tuple, Func, Struct, Iface, Named, type_key, kind_number, refs, is_pointer, is_tuple, is_func, is_iface, is_method, is_embedded, has_ptr, kind_at, under, bare, pointer_at, iface_under, named_pointer}
use Rattle.objects.specs.Rows.{Words, type_count, type_word, element_at, elements_from, member_at, table_of}
use Rattle.objects.specs.Types.{number_read, named_read, pointer_read, under_read, bare_read, first_read, total_read, member_type_read, embedded_read, method_read, ptr_read}
use Rattle.objects.proofs.ListLaws.{cases, clash, and_l}
use Rattle.objects.proofs.BoolLaws.{and_yes}
use Rattle.objects.proofs.PartLaws.{last_snoc}
use Rattle.objects.proofs.RowLaws.{number-read, kind-beyond, under-read, bare-read, elements-more, member-type-meant, embedded-meant, method-meant, ptr-meant}
use Rattle.rules.specs.Checks.{may_refer, smaller_tuple, ends_in_slice, may_name, type_allowed, may_embed, may_have, member_allowed}
use Rattle.references.proofs.RowKinds.{there, tuple-word, tuple-row, func-row, struct_row, named-row}

-- ---- readers that know where the table ends

module _ (text : Bytes) (rows : Words) (t : TypeKey) where
  pub kind-there : {n : ℕ} → n ≡ type_count rows → t.0 < n → {k : ℕ} → k ≡ number_read rows t → k ≡ kind_number (kind_at (table_of text rows) t)
  kind-there e h p = p ∙ sym (number-read text rows t (rw e at h))

  pub kind-lacking : {n : ℕ} → n ≡ type_count rows → n ≤ t.0 → 0 ≡ kind_number (kind_at (table_of text rows) t)
  kind-lacking e h = sym (ap kind_number (kind-beyond text rows t (omega arith)))

  module _ {k : ℕ} (p : k ≡ kind_number (kind_at (table_of text rows) t)) where
    shown : (n : ℕ) → 0 < n → k ≡ n → t.0 < type_count rows
    shown n l e = there text rows t (omega arith)

    number_is : (n : ℕ) → 0 < n → k ≡ n → number_read rows t ≡ n
    number_is n l e = sym (number-read text rows t (shown n l e)) ∙ sym p ∙ e

    pub under-named : k ≡ 10 → {w : ℕ} → w ≡ type_word rows t 1 → type_key w ≡ under (table_of text rows) t
    unfolding under_read named_read
    under-named e q = ap type_key q ∙ sym (under-read text rows t (shown 10 (omega arith) e) ∙ rw (number_is 10 (omega arith) e))

    pub under-other : (k ≡ 10 → ⊥) → t ≡ under (table_of text rows) t
    unfolding under
    under-other n = rw (ne_eqb (kind_number (kind_at (table_of text rows) t)) 10 (λ e. n (p ∙ e)))

    pub bare-pointer : k ≡ 3 → {w : ℕ} → w ≡ type_word rows t 1 → type_key w ≡ bare (table_of text rows) t
    unfolding bare_read pointer_read
    bare-pointer e q = ap type_key q ∙ sym (bare-read text rows t (shown 3 (omega arith) e) ∙ rw (number_is 3 (omega arith) e))

    pub bare-other : (k ≡ 3 → ⊥) → t ≡ bare (table_of text rows) t
    unfolding bare
    bare-other n = rw (ne_eqb (kind_number (kind_at (table_of text rows) t)) 3 (λ e. n (p ∙ e)))

-- ---- a reference

module _ (T : Table) (t e : TypeKey) {k : ℕ} (p : k ≡ kind_number (kind_at T e)) where
  is : (n : ℕ) → k ≡ n → kind_number (kind_at T e) ≡ n
  is n q = sym p ∙ q

  is-not : (n : ℕ) → (k ≡ n → ⊥) → eqb (kind_number (kind_at T e)) n ≡ false
  is-not n q = ne_eqb (kind_number (kind_at T e)) n (λ z. q (p ∙ z))

  pub refer-tuple : k ≡ 6 → false ≡ may_refer T t e
  refer-tuple q = rw (is 6 q)

  pub refer-iface : k ≡ 9 → true ≡ may_refer T t e
  refer-iface q = cases (ltb e.0 t.0) (λ b. rw (is 9 q, b)) (λ b. rw (is 9 q, b))

  pub refer-named : k ≡ 10 → true ≡ may_refer T t e
  refer-named q = cases (ltb e.0 t.0) (λ b. rw (is 10 q, b)) (λ b. rw (is 10 q, b))

  pub refer-other : (k ≡ 6 → ⊥) → (k ≡ 9 → ⊥) → (k ≡ 10 → ⊥) → ltb e.0 t.0 ≡ may_refer T t e
  refer-other a b c = cases (ltb e.0 t.0) (λ d. rw (is-not 6 a, is-not 9 b, is-not 10 c, d)) (λ d. rw (is-not 6 a, is-not 9 b, is-not 10 c, d))

-- a reference to a smaller number, by the word of its kind
pub smaller-refers : (text : Bytes) (rows : Words) (t e : TypeKey) → t.0 < type_count rows → e.0 < t.0
    → {k : ℕ} → k ≡ type_word rows e 0 → not (eqb k 6) ≡ may_refer (table_of text rows) t e
smaller-refers text rows t e h l p =
    rw (lt-ltb e.0 t.0 l)
    (ap not (tuple-word rows e p ∙ ap (λ n. eqb n 6) (sym (number-read text rows e (omega arith)))) ∙ sym (and_yes _))

-- ---- tests that the code tries in turn

-- `a && (not x || c)`
pub by-first : {a x : Bool} (c : Bool) → a ≡ true → x ≡ false → not x ≡ a && (not x || c)
by-first c p q = rw (p, q)

pub by-second : {a x : Bool} (c : Bool) → a ≡ true → x ≡ true → c ≡ a && (not x || c)
by-second c p q = rw (p, q)

pub by-none : {a : Bool} (c : Bool) → a ≡ false → a ≡ a && c
by-none c p = rw p

-- both of two tests
pub both-tried : {a b r : Bool} {A B : Bool} → a ≡ A → a ≡ true → b ≡ B → r ≡ b → r ≡ A && B
both-tried p t q e = e ∙ q ∙ rw (sym p ∙ t)

pub one-tried : {a r : Bool} {A : Bool} (B : Bool) → a ≡ A → a ≡ false → r ≡ a → r ≡ A && B
one-tried B p f e = e ∙ f ∙ rw (sym p ∙ f)

-- ---- a T line

module _ (text : Bytes) (rows : Words) (p : TypeKey) (h : p.0 < type_count rows) (six : number_read rows p ≡ 6) {n : ℕ} (pn : n ≡ total_read rows p) where
  pub ends-empty : n ≡ 0 → false ≡ ends_in_slice (table_of text rows) p
  unfolding elements_from
  ends-empty e = rw (tuple-row text rows p h six, sym pn ∙ e)

  pub ends_last : (n ≡ 0 → ⊥) → {f : ℕ} → f ≡ first_read rows p → {e : TypeKey} → e ≡ element_at rows (f + (n - 1)) → {k : ℕ} → k ≡ kind_number (kind_at (table_of text rows) e)
      → eqb k 2 ≡ ends_in_slice (table_of text rows) p
  ends_last z pf pe pk =
      rw (pk, pe, pf, tuple-row text rows p h six, ← pn, more, last_snoc (elements_from text rows (first_read rows p) (n - 1)) (element_at rows (first_read rows p + (n - 1))))
      (or_no _)
    where
      more : elements_from text rows (first_read rows p) n ≡ elements_from text rows (first_read rows p) (n - 1) ++ (element_at rows (first_read rows p + (n - 1)) ∷ [])
      more = let s : n ≡ suc (n - 1) = omega arith in ap (elements_from text rows (first_read rows p)) s ∙ elements-more text rows (first_read rows p) (n - 1)

      or_no : (b : Bool) → b ≡ b || false
      or_no true = refl
      or_no false = refl

-- a smaller-numbered tuple is there
pub tuple-there : (text : Bytes) (rows : Words) (t p : TypeKey) {a : Bool} → a ≡ smaller_tuple (table_of text rows) t p → a ≡ true → (p.0 < type_count rows) × (number_read rows p ≡ 6)
tuple-there text rows t p pa e =
    let six = eqb-true (kind_number (kind_at (table_of text rows) p)) 6 (and_l (is_tuple (kind_at (table_of text rows) p)) (ltb p.0 t.0) (sym pa ∙ e)) in
    let h = there text rows p (omega arith) in
    (h, sym (number-read text rows p h) ∙ six)

pub func-allowed : (text : Bytes) (rows : Words) (t : TypeKey) → t.0 < type_count rows → number_read rows t ≡ 7
    → {p r v : ℕ} → p ≡ type_word rows t 2 → r ≡ type_word rows t 3 → v ≡ type_word rows t 1
    → {s : Bool} → s ≡ smaller_tuple (table_of text rows) t (type_key p) && smaller_tuple (table_of text rows) t (type_key r)
    → s && (not (eqb v 1) || ends_in_slice (table_of text rows) (type_key p)) ≡ type_allowed (table_of text rows) t (kind_at (table_of text rows) t)
func-allowed text rows t h seven {p} {r} {v} pp pr pv ps =
    rw (ps, pp, pr, pv, func-row text rows t h seven)

module _ (T : Table) (t : TypeKey) where
  pub named-allowed : {u : TypeKey} {ms : List Member} → kind_at T t ≡ Named u ms → {r : Bool} → r ≡ may_name T u → r ≡ type_allowed T t (kind_at T t)
  named-allowed q e = e ∙ rw q

  pub others-allowed : (k : Kind) → (kind_number k ≡ 7 → ⊥) → (kind_number k ≡ 10 → ⊥) → every (may_refer T t) (refs k) ≡ type_allowed T t k
  others-allowed (Basic k) a b = refl
  others-allowed (Array n e) a b = and_yes _
  others-allowed (Slice e) a b = and_yes _
  others-allowed (Pointer e) a b = and_yes _
  others-allowed (Map k e) a b = ap (λ x. may_refer T t k && x) (and_yes _)
  others-allowed (Chan d e) a b = and_yes _
  others-allowed (Tuple es) a b = refl
  others-allowed (Func v p r) a b = absurd (a refl)
  others-allowed (Struct ms) a b = refl
  others-allowed (Iface ms) a b = refl
  others-allowed (Named u ms) a b = absurd (b refl)

module _ (text : Bytes) (rows : Words) (t : TypeKey) (h : t.0 < type_count rows) {k : ℕ} (p : k ≡ number_read rows t) where
  pub named-is-allowed : k ≡ 10 → {w : ℕ} → w ≡ type_word rows t 1 → {r : Bool} → r ≡ may_name (table_of text rows) (type_key w) → r ≡ type_allowed (table_of text rows) t (kind_at (table_of text rows) t)
  named-is-allowed e q pr = named-allowed (table_of text rows) t (named-row text rows t h (sym p ∙ e)) (rw q at pr)

  pub others-are-allowed : (k ≡ 7 → ⊥) → (k ≡ 10 → ⊥) → {r : Bool} → r ≡ every (may_refer (table_of text rows) t) (refs (kind_at (table_of text rows) t))
      → r ≡ type_allowed (table_of text rows) t (kind_at (table_of text rows) t)
  others-are-allowed a b pr =
      pr ∙ others-allowed (table_of text rows) t (kind_at (table_of text rows) t) (λ e. a (p ∙ sym (number-read text rows t h) ∙ e)) (λ e. b (p ∙ sym (number-read text rows t h) ∙ e))

-- ---- an F or M line

module _ (T : Table) (e : TypeKey) {k : ℕ} (p : k ≡ kind_number (kind_at T e)) where
  pub embed-pointer : k ≡ 3 → {b u : TypeKey} → b ≡ bare T e → u ≡ under T b → {r : Bool} → r ≡ not (is_pointer (kind_at T u) || is_iface (kind_at T u)) → r ≡ may_embed T e
  unfolding named_pointer pointer_at iface_under
  embed-pointer q pb pu pr = pr ∙ rw (pu, pb, is T e e p 3 q)

  pub embed-named : k ≡ 10 → {u : TypeKey} → u ≡ under T e → {j : ℕ} → j ≡ kind_number (kind_at T u) → not (eqb j 3) ≡ may_embed T e
  unfolding named_pointer pointer_at iface_under
  embed-named q pu pj = rw (pj, pu, is T e e p 10 q) (sym (and_yes _))

  pub embed-other : (k ≡ 3 → ⊥) → (k ≡ 10 → ⊥) → true ≡ may_embed T e
  unfolding named_pointer pointer_at iface_under
  embed-other a b = rw (is-not T e e p 3 a, is-not T e e p 10 b)

module _ (T : Table) (t : TypeKey) (ptr : Bool) where
  pub have-iface : kind_number (kind_at T t) ≡ 9 → not ptr ≡ may_have T (kind_at T t) ptr
  have-iface e = rw e

  pub have-named : {u : TypeKey} {ms : List Member} → kind_at T t ≡ Named u ms → {r : Bool} → r ≡ not (is_pointer (kind_at T u) || is_iface (kind_at T u)) → r ≡ may_have T (kind_at T t) ptr
  have-named q e = e ∙ rw q (sym (and_yes _))

  pub have-struct : {ms : List Member} → kind_at T t ≡ Struct ms → true ≡ may_have T (kind_at T t) ptr
  have-struct q = rw q

module _ (text : Bytes) (rows : Words) (t : TypeKey) (h : t.0 < type_count rows) (ptr : Bool) {k : ℕ} (p : k ≡ number_read rows t) where
  pub iface-has : k ≡ 9 → not ptr ≡ may_have (table_of text rows) (kind_at (table_of text rows) t) ptr
  iface-has e = have-iface (table_of text rows) t ptr (number-read text rows t h ∙ sym p ∙ e)

  pub named-has : k ≡ 10 → {w : ℕ} → w ≡ type_word rows t 1
      → {r : Bool} → r ≡ not (is_pointer (kind_at (table_of text rows) (type_key w)) || is_iface (kind_at (table_of text rows) (type_key w)))
      → r ≡ may_have (table_of text rows) (kind_at (table_of text rows) t) ptr
  named-has e q pr = have-named (table_of text rows) t ptr (named-row text rows t h (sym p ∙ e)) (rw q at pr)

  pub struct-has : 7 < number_read rows t → (k ≡ 9 → ⊥) → (k ≡ 10 → ⊥) → true ≡ may_have (table_of text rows) (kind_at (table_of text rows) t) ptr
  struct-has l a b = have-struct (table_of text rows) t ptr (struct_row text rows t h l (λ e. a (p ∙ e)) (λ e. b (p ∙ e)))

module _ (T : Table) (t : TypeKey) (k : Kind) (e : TypeKey) where
  pub method-allowed : (x : Entity) → is_method x ≡ true → is_func (kind_at T e) && may_have T k (has_ptr x) ≡ member_allowed T t k e x
  method-allowed (Field emb tag) h = clash h refl
  method-allowed (Method ptr) h = refl

  pub field-allowed : (x : Entity) → is_method x ≡ false → may_refer T t e && (not (is_embedded x) || may_embed T e) ≡ member_allowed T t k e x
  field-allowed (Field emb tag) h = refl
  field-allowed (Method ptr) h = clash refl h

module _ (text : Bytes) (rows : Words) (t : TypeKey) (m : ObjKey) {e : TypeKey} (pe : e ≡ member_type_read rows m) {b : Bool} (pm : b ≡ method_read rows m) where
  abbrev Allowed : Bool → Type 0
  Allowed r = r ≡ member_allowed (table_of text rows) t (kind_at (table_of text rows) t) (member_at text rows m).type (member_at text rows m).entity

  pub line-method : b ≡ true → {k : ℕ} → k ≡ kind_number (kind_at (table_of text rows) e) → {p : Bool} → p ≡ ptr_read rows m
      → {h : Bool} → h ≡ may_have (table_of text rows) (kind_at (table_of text rows) t) p → {r : Bool} → r ≡ eqb k 7 && h → Allowed r
  line-method y pk pp ph pr =
      pr ∙ rw (ph, pk, pp, ← ptr-meant text rows m, pe, ← member-type-meant text rows m)
      (method-allowed (table_of text rows) t (kind_at (table_of text rows) t) (member_at text rows m).type (member_at text rows m).entity (method-meant text rows m ∙ sym pm ∙ y))

  module _ (y : b ≡ false) {x : Bool} (px : x ≡ embedded_read rows m) {a : Bool} (pa : a ≡ may_refer (table_of text rows) t e) where
    pub line-field : a && (not x || may_embed (table_of text rows) e) ≡ member_allowed (table_of text rows) t (kind_at (table_of text rows) t) (member_at text rows m).type (member_at text rows m).entity
    line-field =
        rw (pa, px, ← embedded-meant text rows m, pe, ← member-type-meant text rows m)
        (field-allowed (table_of text rows) t (kind_at (table_of text rows) t) (member_at text rows m).type (member_at text rows m).entity (method-meant text rows m ∙ sym pm ∙ y))
