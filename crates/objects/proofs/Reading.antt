-- Why the readers (src/rows.rt) give what specs/Types.antt reads off the words: one law for each way out. And why the word of a package says it.
use mathlib.Core.Path.{◌≡◌}
use mathlib.Core.Bool.{Bool, true, false}
use Prim.Native.Nat.{ℕ, min, ◌+◌, ◌-◌, ◌≤◌}
use native.Mathlib.Omega.{arith}
use lib.Dec.{eqb, ltb}
use borrow.Author.Tests.{ltb-true, ltb-false, ne_eqb}
use Rattle.objects.proofs.ListLaws.{cases}
use Rattle.objects.specs.declared.TypeKey.{TypeKey}
use Rattle.objects.specs.declared.ObjKey.{ObjKey}
use Rattle.objects.specs.declared.PackageKey.{PackageKey}
use Rattle.std.specs.declared.option.Option as code
use Rattle.std.specs.Prelude.{Some, None}
use Rattle.objects.specs.declared.Dir.{Dir}
use Rattle.objects.specs.declared.«Type».{«Type»}
use Rattle.objects.specs.Bounds.{max_reference}
use Rattle.objects.specs.Table.{type_key, package_key, Numbered}
use Rattle.objects.specs.Rows.{Words, type_word, member_word, package_meant, package_from, dir_at}
use Rattle.objects.specs.Types.{type_read, type_from, number_of, number_read, pointer_read, named_read, bare_read, under_read, iface_read, named_pointer_read, package_read}

-- ---- a whole type

pub dir-both : {n : ℕ} → n ≡ 0 → Dir.Both ≡ dir_at n
unfolding dir_at
dir-both e = rw e

pub dir-send : {n : ℕ} → n ≡ 1 → Dir.Send ≡ dir_at n
unfolding dir_at
dir-send e = rw e

pub dir-receive : {n : ℕ} → (n ≡ 0 → ⊥) → (n ≡ 1 → ⊥) → Dir.Receive ≡ dir_at n
unfolding dir_at
dir-receive {n} p q = rw (ne_eqb n 0 p, ne_eqb n 1 q)

module _ (rows : Words) (t : TypeKey) {k a b first count : ℕ}
    (k-is : k ≡ type_word rows t 0)
    (a-is : a ≡ type_word rows t 1)
    (b-is : b ≡ type_word rows t 2)
    (first-is : first ≡ type_word rows t 4)
    (count-is : count ≡ type_word rows t 5) where
  pub is-basic : k ≡ 0 → «Type».Basic a ≡ type_read rows t
  unfolding type_read type_from
  is-basic q = rw (a-is, ← k-is, q)

  pub is-array : k ≡ 1 → «Type».Array a (type_key b) ≡ type_read rows t
  unfolding type_read type_from
  is-array q = rw (a-is, b-is, ← k-is, q)

  pub is_slice : k ≡ 2 → «Type».Slice (type_key a) ≡ type_read rows t
  unfolding type_read type_from
  is_slice q = rw (a-is, ← k-is, q)

  pub is-pointer : k ≡ 3 → «Type».Pointer (type_key a) ≡ type_read rows t
  unfolding type_read type_from
  is-pointer q = rw (a-is, ← k-is, q)

  pub is-map : k ≡ 4 → «Type».Map (type_key a) (type_key b) ≡ type_read rows t
  unfolding type_read type_from
  is-map q = rw (a-is, b-is, ← k-is, q)

  pub is-chan : {d : Dir} → d ≡ dir_at a → k ≡ 5 → «Type».Chan d (type_key b) ≡ type_read rows t
  unfolding type_read type_from
  is-chan d-is q = rw (d-is, a-is, b-is, ← k-is, q)

  pub is-tuple : k ≡ 6 → «Type».Tuple first count ≡ type_read rows t
  unfolding type_read type_from
  is-tuple q = rw (first-is, count-is, ← k-is, q)

  pub is-func : {c : ℕ} → c ≡ type_word rows t 3 → k ≡ 7 → «Type».Func (eqb a 1) (type_key b) (type_key c) ≡ type_read rows t
  unfolding type_read type_from
  is-func c-is q = rw (c-is, a-is, b-is, ← k-is, q)

  pub is-struct : k ≡ 8 → «Type».Struct first count ≡ type_read rows t
  unfolding type_read type_from
  is-struct q = rw (first-is, count-is, ← k-is, q)

  pub is-iface : k ≡ 9 → «Type».Iface first count ≡ type_read rows t
  unfolding type_read type_from
  is-iface q = rw (first-is, count-is, ← k-is, q)

  pub is-named : (k ≡ 0 → ⊥) → (k ≡ 1 → ⊥) → (k ≡ 2 → ⊥) → (k ≡ 3 → ⊥) → (k ≡ 4 → ⊥) → (k ≡ 5 → ⊥) → (k ≡ 6 → ⊥) → (k ≡ 7 → ⊥) → (k ≡ 8 → ⊥) → (k ≡ 9 → ⊥)
      → «Type».Named (type_key a) first count ≡ type_read rows t
  unfolding type_read type_from
  is-named q0 q1 q2 q3 q4 q5 q6 q7 q8 q9 =
      rw (
        a-is,
        first-is,
        count-is,
        ← k-is,
        ne_eqb k 0 q0,
        ne_eqb k 1 q1,
        ne_eqb k 2 q2,
        ne_eqb k 3 q3,
        ne_eqb k 4 q4,
        ne_eqb k 5 q5,
        ne_eqb k 6 q6,
        ne_eqb k 7 q7,
        ne_eqb k 8 q8,
        ne_eqb k 9 q9,
      )

-- ---- its parts

module _ (rows : Words) (t : TypeKey) where
  pub number-least : {k : ℕ} → k ≡ type_word rows t 0 → min k 10 ≡ number_read rows t
  unfolding number_read number_of
  number-least {k} p =
      cases (ltb k 10)
      (λ e. let h = ltb-true k 10 e in rw (← p, e) (omega arith))
      (λ e. let h = ltb-false k 10 e in rw (← p, e) (omega arith))

  pub bare-yes : {b : Bool} {e : ℕ} → b ≡ pointer_read rows t → b ≡ true → e ≡ type_word rows t 1 → type_key e ≡ bare_read rows t
  unfolding bare_read
  bare-yes p q e = rw (← p, q, e)

  pub bare-no : {b : Bool} → b ≡ pointer_read rows t → b ≡ false → t ≡ bare_read rows t
  unfolding bare_read
  bare-no p q = rw (← p, q)

  pub under-yes : {b : Bool} {u : ℕ} → b ≡ named_read rows t → b ≡ true → u ≡ type_word rows t 1 → type_key u ≡ under_read rows t
  unfolding under_read
  under-yes p q e = rw (← p, q, e)

  pub under-no : {b : Bool} → b ≡ named_read rows t → b ≡ false → t ≡ under_read rows t
  unfolding under_read
  under-no p q = rw (← p, q)

  pub iface-is : {u : TypeKey} {k : ℕ} → u ≡ under_read rows t → k ≡ number_read rows u → eqb k 9 ≡ iface_read rows t
  unfolding iface_read
  iface-is p q = rw (← p, q)

  pub named-pointer-yes : {b p : Bool} {u : TypeKey} → b ≡ named_read rows t → b ≡ true → u ≡ under_read rows t → p ≡ pointer_read rows u → p ≡ named_pointer_read rows t
  unfolding named_pointer_read
  named-pointer-yes p q u r = rw (← p, q, ← u, r)

  pub named-pointer-no : {b : Bool} → b ≡ named_read rows t → b ≡ false → false ≡ named_pointer_read rows t
  unfolding named_pointer_read
  named-pointer-no p q = rw (← p, q)

-- ---- a member's package

module _ (rows : Words) (m : ObjKey) {w : ℕ} (w-is : w ≡ member_word rows m 2) where
  pub package-absent : w ≡ 0 → None ≡ package_read rows m
  unfolding package_read package_from
  package-absent e = rw (← w-is, e)

  pub package-is : (w ≡ 0 → ⊥) → Some (package_key (w - 1)) ≡ package_read rows m
  unfolding package_read package_from
  package-is n = rw (← w-is, ne_eqb w 0 n)

-- the word that says it
module _ {p : code.Option PackageKey} where
  pub absent-said : p ≡ None → package_from 0 ≡ p
  unfolding package_from
  absent-said e = rw e

  pub is_said : {k : PackageKey} → p ≡ Some k → package_from (k.0 + 1) ≡ p
  unfolding package_from
  is_said {k} e = let z : k.0 + 1 - 1 ≡ k.0 = omega arith in rw (e, ne_eqb (k.0 + 1) 0 (λ f. omega arith), z)

  pub is-numbered : {k : PackageKey} → Numbered (package_meant p) → p ≡ Some k → k.0 ≤ max_reference
  unfolding package_meant
  is-numbered n e = rw e at n
