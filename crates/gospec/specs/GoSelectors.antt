-- The Go Programming Language Specification (version of June 29, 2022), sections "Selectors", "Method sets", "Struct types" and "Calls", sentence by sentence,
-- as relations over the table. No algorithm, no bound.
use Rattle.std.specs.Prelude.{◌≡◌, Bool, true, false, ◌||◌, List, [], ◌∷◌, ℕ, zero, suc, ◌<◌}
use Rattle.std.proofs.Math.Option.{Option}
use Rattle.objects.specs.Lists.{Bytes}
use Rattle.objects.specs.declared.TypeKey.{TypeKey}
use Rattle.objects.specs.declared.PackageKey.{PackageKey}
use Rattle.objects.specs.Table.{Table, Member, is_method, is_embedded, has_ptr, Kind, Pointer, Struct, Iface, Named, kind_at, under}
use Rattle.gospec.specs.Go.{At, SameIds}

-- what is under a type: a defined type's type literal, otherwise its own
abbrev pub underlying : Table → TypeKey → Kind
underlying T t = kind_at T (under T t)

-- ---- Selectors

-- "a field or method f declared in T": a field of the struct, a method bound to the defined type, a method of the interface; i is its place there
pub data Declares (T : Table) (t : TypeKey) : ℕ → Member → Type 0 where
  a-field : {i : ℕ} {f : Member} {fs : List Member} → underlying T t ≡ Struct fs → At fs i f → Declares T t i f
  a-method : {i : ℕ} {u : TypeKey} {m : Member} {ms : List Member} → kind_at T t ≡ Named u ms → At ms i m → Declares T t i m
  of-interface : {i : ℕ} {m : Member} {ms : List Member} → underlying T t ≡ Iface ms → At ms i m → Declares T t i m

-- "An embedded field must be specified as a type name T or as a pointer to a non-interface type name *T": e is a, or (true) e is *a
pub data Stars (T : Table) : TypeKey → TypeKey → Bool → Type 0 where
  no-star : {e : TypeKey} → ((a : TypeKey) → kind_at T e ≡ Pointer a → ⊥) → Stars T e e false
  star : {e a : TypeKey} → kind_at T e ≡ Pointer a → Stars T e a true

-- "an embedded field A in T", at place i; true if it is *A
pub data Embeds (T : Table) (t : TypeKey) : ℕ → TypeKey → Bool → Type 0 where
  embeds : {i : ℕ} {a : TypeKey} {b : Bool} {fs : List Member} (f : Member) → underlying T t ≡ Struct fs → At fs i f → is_embedded f.entity ≡ true
      → Stars T f.type a b → Embeds T t i a b

-- Where an f of this name is found in T: its depth, the places from T down to it, and whether a pointer lies on the way.
-- "The number of embedded fields traversed to reach f is called its depth in T."
pub data Occurs (T : Table) (name : Bytes) (pkg : Option PackageKey) : TypeKey → ℕ → List ℕ → Member → Bool → Type 0 where
  -- "The depth of a field or method f declared in T is zero."
  declared : {t : TypeKey} {i : ℕ} (m : Member) → Declares T t i m → SameIds T m.name m.pkg name pkg → Occurs T name pkg t zero (i ∷ []) m false
  -- "The depth of a field or method f declared in an embedded field A in T is the depth of f in A plus one."
  promoted : {t a : TypeKey} {i d : ℕ} {b c : Bool} {ps : List ℕ} {m : Member} → Embeds T t i a b → Occurs T name pkg a d ps m c
      → Occurs T name pkg t (suc d) (i ∷ ps) m (b || c)

-- "T is not a pointer or interface type"
pub record Base (T : Table) (t : TypeKey) : Type 0 where
  pub no_pointer : (e : TypeKey) → underlying T t ≡ Pointer e → ⊥
  pub no-interface : (ms : List Member) → underlying T t ≡ Iface ms → ⊥

-- "For a value x of type T or *T where T is not a pointer or interface type": the type of x, T, and whether it is *T
pub data Operand (T : Table) : TypeKey → TypeKey → Bool → Type 0 where
  of-type : {t : TypeKey} → Base T t → Operand T t t false
  of-pointer : {x t : TypeKey} → kind_at T x ≡ Pointer t → Base T t → Operand T x t true

-- no f at a depth less than d
abbrev pub NoneShallower : Table → Bytes → Option PackageKey → TypeKey → ℕ → Type 0
NoneShallower T name pkg t d = (e : ℕ) (ps : List ℕ) (m : Member) (b : Bool) → e < d → Occurs T name pkg t e ps m b → ⊥

-- Which types of *x the shorthand (*x).f is read for: any, as the text has it; or none that is a pointer again, as document 01 reads it ("a second pointer
-- behind it is not removed").
abbrev pub Text : Table → TypeKey → Type 0
Text T e = Unit {0}

abbrev pub OneStar : Table → TypeKey → Type 0
OneStar T e = (f : TypeKey) → underlying T e ≡ Pointer f → ⊥

-- What x.f denotes, for x of the type given: the places, the field or method, and whether a pointer is followed on the way.
pub data Denotes (T : Table) (R : TypeKey → Type 0) (name : Bytes) (pkg : Option PackageKey) : TypeKey → List ℕ → Member → Bool → Type 0 where
  -- "x.f denotes the field or method at the shallowest depth in T where there is such an f. If there is not exactly one f with shallowest depth, the selector
  -- expression is illegal."
  shallowest : {x t : TypeKey} {d : ℕ} {ps : List ℕ} {m : Member} {o b : Bool} → Operand T x t o → Occurs T name pkg t d ps m b → NoneShallower T name pkg t d
      → ((qs : List ℕ) (n : Member) (c : Bool) → Occurs T name pkg t d qs n c → qs ≡ ps) → Denotes T R name pkg x ps m (o || b)
  -- "For a value x of type I where I is an interface type, x.f denotes the actual method with name f of the dynamic value of x."
  dynamic : {x : TypeKey} {i : ℕ} {ms : List Member} (m : Member) → underlying T x ≡ Iface ms → At ms i m → SameIds T m.name m.pkg name pkg
      → Denotes T R name pkg x (i ∷ []) m false
  -- "As an exception, if the type of x is a defined pointer type and (*x).f is a valid selector expression denoting a field (but not a method), x.f is
  -- shorthand for (*x).f."
  shorthand : {x u e : TypeKey} {ms : List Member} {ps : List ℕ} {b : Bool} (m : Member) → kind_at T x ≡ Named u ms → kind_at T u ≡ Pointer e → R e
      → Denotes T R name pkg e ps m b → is_method m.entity ≡ false → Denotes T R name pkg x ps m true
  -- "In all other cases, x.f is illegal."

-- Illegal because "there is not exactly one f with shallowest depth" but more
pub data Several (T : Table) (R : TypeKey → Type 0) (name : Bytes) (pkg : Option PackageKey) : TypeKey → Type 0 where
  several : {x t : TypeKey} {d : ℕ} {ps qs : List ℕ} {m n : Member} {o b c : Bool} → Operand T x t o → NoneShallower T name pkg t d
      → Occurs T name pkg t d ps m b → Occurs T name pkg t d qs n c → (ps ≡ qs → ⊥) → Several T R name pkg x
  several-shorthand : {x u e : TypeKey} {ms : List Member} → kind_at T x ≡ Named u ms → kind_at T u ≡ Pointer e → R e → Several T R name pkg e → Several T R name pkg x

-- ---- Method sets; Struct types

-- The method set of t, and (true) of *t, with the places at which each method is found
pub data InSet (T : Table) : Bool → TypeKey → List ℕ → Member → Type 0 where
  -- "The method set of a defined type T consists of all methods declared with receiver type T."
  receiver-value : {t u : TypeKey} {i : ℕ} {ms : List Member} (m : Member) → kind_at T t ≡ Named u ms → At ms i m → has_ptr m.entity ≡ false → InSet T false t (i ∷ []) m
  -- "The method set of a pointer to a defined type T (where T is neither a pointer nor an interface) is the set of all methods declared with receiver *T or T."
  receiver-any : {t u : TypeKey} {i : ℕ} {m : Member} {ms : List Member} → kind_at T t ≡ Named u ms → At ms i m → InSet T true t (i ∷ []) m
  -- "The method set of an interface type is .. usually just the set of declared methods in the interface"
  interface-set : {t : TypeKey} {i : ℕ} {m : Member} {ms : List Member} → underlying T t ≡ Iface ms → At ms i m → InSet T false t (i ∷ []) m
  -- "If S contains an embedded field T, the method sets of S and *S both include promoted methods with receiver T.
  value-embedded : {t a : TypeKey} {i : ℕ} {b : Bool} {ps : List ℕ} {m : Member} → Embeds T t i a false → InSet T false a ps m → InSet T b t (i ∷ ps) m
  --  The method set of *S also includes promoted methods with receiver *T."
  value-embedded-star : {t a : TypeKey} {i : ℕ} {ps : List ℕ} {m : Member} → Embeds T t i a false → InSet T true a ps m → InSet T true t (i ∷ ps) m
  -- "If S contains an embedded field *T, the method sets of S and *S both include promoted methods with receiver T or *T."
  star-embedded : {t a : TypeKey} {i : ℕ} {b c : Bool} {ps : List ℕ} {m : Member} → Embeds T t i a true → InSet T c a ps m → InSet T b t (i ∷ ps) m

-- ---- Calls

-- "A method call x.m() is valid if the method set of (the type of) x contains m": x of the type given, a for addressable
pub data Callable (T : Table) (a : Bool) : TypeKey → List ℕ → Member → Type 0 where
  in-set : {x : TypeKey} {ps : List ℕ} {m : Member} → ((e : TypeKey) → kind_at T x ≡ Pointer e → ⊥) → InSet T false x ps m → Callable T a x ps m
  in-pointer-set : {x t : TypeKey} {ps : List ℕ} {m : Member} → kind_at T x ≡ Pointer t → InSet T true t ps m → Callable T a x ps m
  -- "If x is addressable and &x's method set contains m, x.m() is shorthand for (&x).m()"
  in-address-set : {x : TypeKey} {ps : List ℕ} {m : Member} → a ≡ true → InSet T true x ps m → Callable T a x ps m
