-- Laws of what a kind says (specs/Table.antt): a kind that passes the test of its sort is of that form, and what the table's accessors give then.
use mathlib.Core.Path.{◌≡◌, refl}
use mathlib.Core.Bool.{Bool, true, false, cond}
use mathlib.Core.List.{List, []}
use mathlib.Core.Logic.{◌⊎◌, inl, inr}
use Rattle.objects.specs.Lists.{head_or, In}
use Rattle.objects.specs.declared.TypeKey.{TypeKey}
use Rattle.objects.specs.Table.{Table, Member, Kind, Basic, Array, Slice, Pointer, Map, Chan, Tuple, Func, Struct, Iface, Named, is_pointer, is_struct, is_iface, is_named, refs, fields_of, all_methods_of, kind_at, under, bare}
use Rattle.objects.proofs.ListLaws.{cases, clash}

-- a named type refers to its u
pub named-ref : (t : TypeKey) (k : Kind) → is_named k ≡ true → In (head_or t (refs k)) (refs k)
named-ref t (Basic k) h = clash h refl
named-ref t (Array n e) h = clash h refl
named-ref t (Slice e) h = clash h refl
named-ref t (Pointer e) h = clash h refl
named-ref t (Map k e) h = clash h refl
named-ref t (Chan d e) h = clash h refl
named-ref t (Tuple es) h = clash h refl
named-ref t (Func v p r) h = clash h refl
named-ref t (Struct ms) h = clash h refl
named-ref t (Iface ms) h = clash h refl
named-ref t (Named u ms) h = inl refl

-- one of `fields_of`, `declared_of`, `all_methods_of`: the kind is of that sort, and it is a member
pub if-In : {A : Type 0} (b : Bool) (l : List A) (x : A) → In x (cond b l []) → (b ≡ true) × In x l
if-In true l x i = (refl, i)
if-In false l x i = absurd i

-- ---- the form of a kind

pub pointer_is : (k : Kind) → is_pointer k ≡ true → (e : TypeKey) × (k ≡ Pointer e)
pointer_is (Basic k) h = clash h refl
pointer_is (Array n e) h = clash h refl
pointer_is (Slice e) h = clash h refl
pointer_is (Pointer e) h = (e, refl)
pointer_is (Map k e) h = clash h refl
pointer_is (Chan d e) h = clash h refl
pointer_is (Tuple es) h = clash h refl
pointer_is (Func v p r) h = clash h refl
pointer_is (Struct ms) h = clash h refl
pointer_is (Iface ms) h = clash h refl
pointer_is (Named u ms) h = clash h refl

pub struct_is : (k : Kind) → is_struct k ≡ true → (fs : List Member) × (k ≡ Struct fs)
struct_is (Basic k) h = clash h refl
struct_is (Array n e) h = clash h refl
struct_is (Slice e) h = clash h refl
struct_is (Pointer e) h = clash h refl
struct_is (Map k e) h = clash h refl
struct_is (Chan d e) h = clash h refl
struct_is (Tuple es) h = clash h refl
struct_is (Func v p r) h = clash h refl
struct_is (Struct ms) h = (ms, refl)
struct_is (Iface ms) h = clash h refl
struct_is (Named u ms) h = clash h refl

pub iface-is : (k : Kind) → is_iface k ≡ true → (ms : List Member) × (k ≡ Iface ms)
iface-is (Basic k) h = clash h refl
iface-is (Array n e) h = clash h refl
iface-is (Slice e) h = clash h refl
iface-is (Pointer e) h = clash h refl
iface-is (Map k e) h = clash h refl
iface-is (Chan d e) h = clash h refl
iface-is (Tuple es) h = clash h refl
iface-is (Func v p r) h = clash h refl
iface-is (Struct ms) h = clash h refl
iface-is (Iface ms) h = (ms, refl)
iface-is (Named u ms) h = clash h refl

pub named-is : (k : Kind) → is_named k ≡ true → (u : TypeKey) × (ms : List Member) × (k ≡ Named u ms)
named-is (Basic k) h = clash h refl
named-is (Array n e) h = clash h refl
named-is (Slice e) h = clash h refl
named-is (Pointer e) h = clash h refl
named-is (Map k e) h = clash h refl
named-is (Chan d e) h = clash h refl
named-is (Tuple es) h = clash h refl
named-is (Func v p r) h = clash h refl
named-is (Struct ms) h = clash h refl
named-is (Iface ms) h = clash h refl
named-is (Named u ms) h = (u, ms, refl)

-- no struct is an interface
pub fields-or-methods : (k : Kind) → (fields_of k ≡ []) ⊎ (all_methods_of k ≡ [])
fields-or-methods k = cases (is_struct k) (λ e. inr (rw (struct_is k e).1)) (λ e. inl (rw e))

module _ (T : Table) where
  pub under-plain : (t : TypeKey) → is_named (kind_at T t) ≡ false → under T t ≡ t
  unfolding under
  under-plain t h = rw h

  pub under-named : (t u : TypeKey) (ms : List Member) → kind_at T t ≡ Named u ms → under T t ≡ u
  unfolding under
  under-named t u ms h = rw h

  pub bare-plain : (t : TypeKey) → is_pointer (kind_at T t) ≡ false → bare T t ≡ t
  unfolding bare
  bare-plain t h = rw h

  pub bare-pointer : (t e : TypeKey) → kind_at T t ≡ Pointer e → bare T t ≡ e
  unfolding bare
  bare-pointer t e h = rw h
