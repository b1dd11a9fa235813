-- The Go Programming Language Specification (version of June 29, 2022), sections "Method sets", "Struct types" and "Interface types", sentence by sentence, as
-- relations over the table. No algorithm, no bound: a method is in a set if the constructors derive it.
-- `InSet` (GoSelectors.antt) is the set without the condition that a method is promoted. Here that condition is part of the set, at every embedded field.
use Rattle.std.specs.Prelude.{◌≡◌, Bool, true, false, List, [], ◌∷◌, ℕ}
use Rattle.objects.specs.declared.TypeKey.{TypeKey}
use Rattle.objects.specs.Table.{Table, Member, has_ptr, Pointer, Iface, Named, kind_at}
use Rattle.gospec.specs.Go.{At, SameNames, Identical}
use Rattle.gospec.specs.GoSelectors.{underlying, Embeds, Base, Text, Denotes}
use Rattle.gospec.specs.Says.{blank}

-- ---- Struct types

-- "A field or method f of an embedded field in a struct x is called promoted if x.f is a legal selector that denotes that field or method f."
-- x has type t, and f stands at the places ps. ("The identifier f .. must not be the blank identifier." How (*x).f is read plays no part: x is a struct.)
pub record Promoted (T : Table) (t : TypeKey) (ps : List ℕ) (f : Member) : Type 0 where
  pub flag : Bool
  pub named : f.name ≡ blank → ⊥
  pub denotes : Denotes T (Text T) f.name f.pkg t ps f flag

-- ---- Method sets

-- m, found at the places ps, is in the method set of t or (true) of *t, which need not have a number in the table.
pub data Methods (T : Table) : Bool → TypeKey → List ℕ → Member → Type 0 where
  -- "The method set of a defined type T consists of all methods declared with receiver type T."
  own_value : {t u : TypeKey} {i : ℕ} {ms : List Member} (m : Member) → kind_at T t ≡ Named u ms → At ms i m → has_ptr m.entity ≡ false → Methods T false t (i ∷ []) m
  -- "The method set of a pointer to a defined type T (where T is neither a pointer nor an interface) is the set of all methods declared with receiver *T or T."
  own_any : {t u : TypeKey} {i : ℕ} {m : Member} {ms : List Member} → kind_at T t ≡ Named u ms → Base T t → At ms i m → Methods T true t (i ∷ []) m
  -- "The method set of an interface type is the intersection of the method sets of each type in the interface's type set (the resulting method set is usually
  -- just the set of declared methods in the interface)." A table's interfaces are basic ones: "the corresponding method set consists exactly of the methods
  -- specified by the interface" (Interface types). Of a defined type it is that of its underlying type: "the method set of an interface type or of elements of a
  -- composite type remains unchanged" (Type definitions).
  listed : {t : TypeKey} {i : ℕ} {m : Member} {ms : List Member} → underlying T t ≡ Iface ms → At ms i m → Methods T false t (i ∷ []) m
  -- "Further rules apply to structs (and pointer to structs) containing embedded fields, as described in the section on struct types."
  -- "Given a struct type S and a named type T, promoted methods are included in the method set of the struct as follows:
  --  If S contains an embedded field T, the method sets of S and *S both include promoted methods with receiver T.
  --  (With receiver T: in the method set of T. Tables may embed unnamed types; the rule is the same.)
  from-value : {t a : TypeKey} {i : ℕ} {b : Bool} {ps : List ℕ} {m : Member} → Embeds T t i a false → Methods T false a ps m → Promoted T t (i ∷ ps) m → Methods T b t (i ∷ ps) m
  --  The method set of *S also includes promoted methods with receiver *T.
  from-value-star : {t a : TypeKey} {i : ℕ} {ps : List ℕ} {m : Member} → Embeds T t i a false → Methods T true a ps m → Promoted T t (i ∷ ps) m → Methods T true t (i ∷ ps) m
  --  If S contains an embedded field *T, the method sets of S and *S both include promoted methods with receiver T or *T."
  from-star : {t a : TypeKey} {i : ℕ} {b c : Bool} {ps : List ℕ} {m : Member} → Embeds T t i a true → Methods T c a ps m → Promoted T t (i ∷ ps) m → Methods T b t (i ∷ ps) m
  -- "Any other type has an empty method set."

-- "Every type has a (possibly empty) method set associated with it": x's, by what it points to if it is a pointer type
pub data MethodSet (T : Table) (x : TypeKey) : List ℕ → Member → Type 0 where
  of_plain : {ps : List ℕ} {m : Member} → ((e : TypeKey) → kind_at T x ≡ Pointer e → ⊥) → Methods T false x ps m → MethodSet T x ps m
  of-star : {t : TypeKey} {ps : List ℕ} {m : Member} → kind_at T x ≡ Pointer t → Methods T true t ps m → MethodSet T x ps m

-- The method set of x includes the method m of an interface: one of its name, with an identical type.
pub record SetIncludes (T : Table) (x : TypeKey) (m : Member) : Type 0 where
  pub places : List ℕ
  pub found : Member
  pub has : MethodSet T x places found
  pub same_name : SameNames T m found
  pub same-type : Identical T m.type found.type
