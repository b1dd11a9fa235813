-- "Any other type has an empty method set": which types may have methods in their sets, and the sets that are empty: of a pointer to a pointer, of a pointer to an
-- interface, of a defined pointer type, and of every other type that is neither a defined type, a struct, an interface nor a pointer to one of the first two.
use mathlib.Core.Path.{◌≡◌, refl, sym, ap, ◌∙◌}
use mathlib.Core.Bool.{Bool, true, false}
use mathlib.Core.List.{List}
use Prim.Native.Nat.{ℕ}
use Rattle.objects.specs.declared.TypeKey.{TypeKey}
use Rattle.objects.specs.Table.{Table, Member, Pointer, Iface, Named, is_pointer, is_struct, is_iface, is_named, kind_at}
use Rattle.objects.proofs.ListLaws.{clash}
use Rattle.objects.proofs.BoolLaws.{false_of}
use Rattle.objects.proofs.KindLaws.{pointer_is, iface-is, under-plain}
use Rattle.rules.specs.Sound.{Sound}
use Rattle.ways.proofs.TableLaws.{names-neither}
use Rattle.gospec.specs.GoSelectors.{underlying, Embeds, embeds}
use Rattle.gospec.proofs.Places.{At-In}
use Rattle.gospec.proofs.Operands.{base-one, under-defined}
use Rattle.gospec.specs.GoMethodSets.{Methods, own_value, own_any, listed, from-value, from-value-star, from-star, MethodSet, of_plain, of-star}

module _ (T : Table) where
  embeds-struct : {t a : TypeKey} {i : ℕ} {o : Bool} → Embeds T t i a o → is_struct (underlying T t) ≡ true
  embeds-struct (embeds f l at e s) = ap is_struct l

  -- which types t have something in the set of t, or (true) of *t
  data Sort : Bool → TypeKey → Type 0 where
    a-defined : {t : TypeKey} → is_named (kind_at T t) ≡ true → Sort false t
    a-star : {t : TypeKey} → is_named (kind_at T t) ≡ true → is_pointer (underlying T t) ≡ false → is_iface (underlying T t) ≡ false → Sort true t
    an-interface : {t : TypeKey} → is_iface (underlying T t) ≡ true → Sort false t
    a_struct : {b : Bool} {t : TypeKey} → is_struct (underlying T t) ≡ true → Sort b t

  methods-sort : {b : Bool} {t : TypeKey} {ps : List ℕ} {m : Member} → Methods T b t ps m → Sort b t
  methods-sort (own_value m k a h) = a-defined (ap is_named k)
  methods-sort (own_any {t = t} k w a) = a-star (ap is_named k)
      (false_of (is_pointer (underlying T t)) (λ e. let p = pointer_is (underlying T t) e in w.no_pointer p.0 p.1))
      (false_of (is_iface (underlying T t)) (λ e. let p = iface-is (underlying T t) e in w.no-interface p.0 p.1))
  methods-sort (listed l a) = an-interface (ap is_iface l)
  methods-sort (from-value e s p) = a_struct (embeds-struct e)
  methods-sort (from-value-star e s p) = a_struct (embeds-struct e)
  methods-sort (from-star e s p) = a_struct (embeds-struct e)

  -- a pointer to a pointer, defined or not
  pub pointer-pointer : (x t e : TypeKey) → kind_at T x ≡ Pointer t → underlying T t ≡ Pointer e → (ps : List ℕ) (m : Member) → MethodSet T x ps m → ⊥
  pointer-pointer x t e k l ps m (of_plain n s) = n t k
  pointer-pointer x t e k l ps m (of-star {t = u} z s) = go (base-one u t (sym z ∙ k)) (methods-sort s)
    where
      go : u ≡ t → Sort true u → ⊥
      go q (a-star n p i) = clash (ap (λ (y : TypeKey). is_pointer (underlying T y)) q ∙ ap is_pointer l) p
      go q (a_struct h) = clash h (ap (λ (y : TypeKey). is_struct (underlying T y)) q ∙ ap is_struct l)

  -- a pointer to an interface, named or not
  pub pointer-interface : (x t : TypeKey) (ns : List Member) → kind_at T x ≡ Pointer t → underlying T t ≡ Iface ns → (ps : List ℕ) (m : Member) → MethodSet T x ps m → ⊥
  pointer-interface x t ns k l ps m (of_plain n s) = n t k
  pointer-interface x t ns k l ps m (of-star {t = u} z s) = go (base-one u t (sym z ∙ k)) (methods-sort s)
    where
      go : u ≡ t → Sort true u → ⊥
      go q (a-star n p i) = clash (ap (λ (y : TypeKey). is_iface (underlying T y)) q ∙ ap is_iface l) i
      go q (a_struct h) = clash h (ap (λ (y : TypeKey). is_struct (underlying T y)) q ∙ ap is_struct l)

  -- a type literal that is neither a struct, an interface nor a pointer
  pub other-literal : (x : TypeKey) → is_named (kind_at T x) ≡ false → is_struct (kind_at T x) ≡ false → is_iface (kind_at T x) ≡ false → is_pointer (kind_at T x) ≡ false
      → (ps : List ℕ) (m : Member) → MethodSet T x ps m → ⊥
  other-literal x n s i p ps m (of-star z h) = clash (ap is_pointer z) p
  other-literal x n s i p ps m (of_plain z h) = go (methods-sort h)
    where
      go : Sort false x → ⊥
      go (a-defined e) = clash e n
      go (an-interface e) = clash e (ap (λ (y : TypeKey). is_iface (kind_at T y)) (under-plain T x n) ∙ i)
      go (a_struct e) = clash e (ap (λ (y : TypeKey). is_struct (kind_at T y)) (under-plain T x n) ∙ s)

  -- a pointer to a type literal that is no struct
  pub pointer-literal : (x t : TypeKey) → kind_at T x ≡ Pointer t → is_named (kind_at T t) ≡ false → is_struct (kind_at T t) ≡ false → (ps : List ℕ) (m : Member) → MethodSet T x ps m → ⊥
  pointer-literal x t k n s ps m (of_plain z h) = z t k
  pointer-literal x t k n s ps m (of-star {t = u} z h) = go (base-one u t (sym z ∙ k)) (methods-sort h)
    where
      go : u ≡ t → Sort true u → ⊥
      go q (a-star e p i) = clash e (ap (λ (y : TypeKey). is_named (kind_at T y)) q ∙ n)
      go q (a_struct e) = clash e (ap (λ (y : TypeKey). is_struct (underlying T y)) q ∙ ap (λ (y : TypeKey). is_struct (kind_at T y)) (under-plain T t n) ∙ s)

  -- a defined pointer type: no method is declared with such a receiver
  pub defined-pointer : Sound T → (x u e : TypeKey) (ms : List Member) → kind_at T x ≡ Named u ms → kind_at T u ≡ Pointer e → (ps : List ℕ) (m : Member) → MethodSet T x ps m → ⊥
  defined-pointer sound x u e ms k l ps m (of-star z h) = clash refl (ap is_pointer (sym z ∙ k))
  defined-pointer sound x u e ms k l ps m (of_plain z (own_value {u = v} {ms = ns} n j a h)) =
      clash (ap is_pointer (sym (under-defined T x v ns (kind_at T v) j refl) ∙ under-defined T x u ms (Pointer e) k l)) (names-neither T sound x v ns n j (At-In a)).0
  defined-pointer sound x u e ms k l ps m (of_plain z (listed i a)) = clash refl (ap is_pointer (sym (under-defined T x u ms (Pointer e) k l) ∙ i))
  defined-pointer sound x u e ms k l ps m (of_plain z (from-value i s p)) = clash (embeds-struct i) (ap is_struct (under-defined T x u ms (Pointer e) k l))
  defined-pointer sound x u e ms k l ps m (of_plain z (from-star i s p)) = clash (embeds-struct i) (ap is_struct (under-defined T x u ms (Pointer e) k l))
