-- The Go Programming Language Specification (version of June 29, 2022), sections "Uniqueness of identifiers", "Type identity" and "Comparison operators",
-- sentence by sentence, as relations over the table. No algorithm, no bound: a relation holds if its constructors derive it.
use Rattle.std.specs.Prelude.{◌≡◌, Bool, List, ◌∷◌, ℕ, zero, suc, ◌≤◌, length}
use Rattle.std.proofs.Math.Option.{Option}
use Rattle.objects.specs.Lists.{Bytes, In}
use Rattle.objects.specs.declared.TypeKey.{TypeKey}
use Rattle.objects.specs.declared.PackageKey.{PackageKey}
use Rattle.objects.specs.declared.Dir.{Dir}
use Rattle.objects.specs.Table.{Table, Member, is_embedded, tag_of, Kind, Basic, Array, Slice, Pointer, Map, Chan, Tuple, Func, Struct, Iface, Named, kind_at, path_of}

-- x stands at place i of a list
pub data At {A : Type 0} : List A → ℕ → A → Type 0 where
  at_first : {x : A} {l : List A} → At (x ∷ l) zero x
  at-later : {x y : A} {l : List A} {i : ℕ} → At l i x → At (y ∷ l) (suc i) x

-- ---- Exported identifiers; Uniqueness of identifiers

-- "the first character of the identifier's name is a Unicode uppercase letter (Unicode character category Lu); and the identifier is declared in the package
-- block or it is a field name or method name." Names are ASCII: A to Z.
pub data Exported : Bytes → Type 0 where
  capital : {b : ℕ} {bs : Bytes} → 65 ≤ b → b ≤ 90 → Exported (b ∷ bs)

-- "Two identifiers are different if they are spelled differently, or if they appear in different packages and are not exported." A package is told by its
-- import path; no package differs from any.
pub data DifferentIds (T : Table) (a : Bytes) (p : Option PackageKey) (b : Bytes) (q : Option PackageKey) : Type 0 where
  spelled : (a ≡ b → ⊥) → DifferentIds T a p b q
  packages : (path_of T p ≡ path_of T q → ⊥) → (Exported a → ⊥) → (Exported b → ⊥) → DifferentIds T a p b q

-- "Otherwise, they are the same."
abbrev pub SameIds : Table → Bytes → Option PackageKey → Bytes → Option PackageKey → Type 0
SameIds T a p b q = DifferentIds T a p b q → ⊥

-- of two members
abbrev pub DifferentNames : Table → Member → Member → Type 0
DifferentNames T m n = DifferentIds T m.name m.pkg n.name n.pkg

abbrev pub SameNames : Table → Member → Member → Type 0
SameNames T m n = DifferentNames T m n → ⊥

-- ---- Type identity

-- the basic types that are named here, by their numbers
abbrev pub int32 : ℕ
int32 = 5

abbrev pub uint8 : ℕ
uint8 = 8

abbrev pub untyped_nil : ℕ
untyped_nil = 25

abbrev pub byte : ℕ
byte = 26

abbrev pub rune : ℕ
rune = 27

-- "byte, which is an alias for uint8, and rune, which is an alias for int32." (Numeric types)
pub data Alias : ℕ → ℕ → Type 0 where
  byte-is-uint8 : Alias byte uint8
  rune-is-int32 : Alias rune int32

pub data SameBasic : ℕ → ℕ → Type 0 where
  itself : {k : ℕ} → SameBasic k k
  left-alias : {j k l : ℕ} → Alias j k → SameBasic k l → SameBasic j l
  right-alias : {j k l : ℕ} → SameBasic j k → Alias l k → SameBasic j l

-- "they have the same literal structure": type literals of one form
pub data SameForm : Kind → Kind → Type 0 where
  basics : {j k : ℕ} → SameForm (Basic j) (Basic k)
  arrays : {n m : ℕ} {e f : TypeKey} → SameForm (Array n e) (Array m f)
  slices : {e f : TypeKey} → SameForm (Slice e) (Slice f)
  pointers : {e f : TypeKey} → SameForm (Pointer e) (Pointer f)
  maps : {j e k f : TypeKey} → SameForm (Map j e) (Map k f)
  chans : {c d : Dir} {e f : TypeKey} → SameForm (Chan c e) (Chan d f)
  tuples : {es fs : List TypeKey} → SameForm (Tuple es) (Tuple fs)
  funcs : {v w : Bool} {p r q s : TypeKey} → SameForm (Func v p r) (Func w q s)
  structs : {fs gs : List Member} → SameForm (Struct fs) (Struct gs)
  ifaces : {ms ns : List Member} → SameForm (Iface ms) (Iface ns)
  nameds : {u v : TypeKey} {ms ns : List Member} → SameForm (Named u ms) (Named v ns)

-- "Two types are either identical or different." Different: by a derivation, that is, by a finite chain of corresponding components that ends where one of
-- the sentences below is violated.
pub data Different (T : Table) : TypeKey → TypeKey → Type 0 where
  -- "A named type is always different from any other type." (Predeclared types are named types; two with one basic kind are one.)
  names : {x y u v : TypeKey} {ms ns : List Member} → kind_at T x ≡ Named u ms → kind_at T y ≡ Named v ns → (x ≡ y → ⊥) → Different T x y
  predeclared : {x y : TypeKey} {j k : ℕ} → kind_at T x ≡ Basic j → kind_at T y ≡ Basic k → (SameBasic j k → ⊥) → Different T x y
  -- "Otherwise, two types are identical if their underlying type literals are structurally equivalent; that is, they have the same literal structure and
  -- corresponding components have identical types."
  forms : {x y : TypeKey} → (SameForm (kind_at T x) (kind_at T y) → ⊥) → Different T x y
  -- "Two array types are identical if they have identical element types and the same array length."
  array-elements : {x y e f : TypeKey} {n m : ℕ} → kind_at T x ≡ Array n e → kind_at T y ≡ Array m f → Different T e f → Different T x y
  array-lengths : {x y e f : TypeKey} {n m : ℕ} → kind_at T x ≡ Array n e → kind_at T y ≡ Array m f → (n ≡ m → ⊥) → Different T x y
  -- "Two slice types are identical if they have identical element types."
  slice-elements : {x y e f : TypeKey} → kind_at T x ≡ Slice e → kind_at T y ≡ Slice f → Different T e f → Different T x y
  -- "Two struct types are identical if they have the same sequence of fields,
  struct-counts : {x y : TypeKey} {fs gs : List Member} → kind_at T x ≡ Struct fs → kind_at T y ≡ Struct gs → (length fs ≡ length gs → ⊥) → Different T x y
  --  (The text says no more of "sequence". An embedded field and one that is not are two in a sequence of fields, as compilers take it.)
  struct-embedding : {x y : TypeKey} {i : ℕ} {fs gs : List Member} (f g : Member) → kind_at T x ≡ Struct fs → kind_at T y ≡ Struct gs → At fs i f → At gs i g
      → (is_embedded f.entity ≡ is_embedded g.entity → ⊥) → Different T x y
  --  and if corresponding fields have the same names, ["Non-exported field names from different packages are always different."]
  struct-names : {x y : TypeKey} {i : ℕ} {fs gs : List Member} (f g : Member) → kind_at T x ≡ Struct fs → kind_at T y ≡ Struct gs → At fs i f → At gs i g
      → DifferentNames T f g → Different T x y
  --  and identical types,
  struct-types : {x y : TypeKey} {i : ℕ} {fs gs : List Member} (f g : Member) → kind_at T x ≡ Struct fs → kind_at T y ≡ Struct gs → At fs i f → At gs i g
      → Different T f.type g.type → Different T x y
  --  and identical tags."
  struct-tags : {x y : TypeKey} {i : ℕ} {fs gs : List Member} (f g : Member) → kind_at T x ≡ Struct fs → kind_at T y ≡ Struct gs → At fs i f → At gs i g
      → (tag_of f.entity ≡ tag_of g.entity → ⊥) → Different T x y
  -- "Two pointer types are identical if they have identical base types."
  pointer-bases : {x y e f : TypeKey} → kind_at T x ≡ Pointer e → kind_at T y ≡ Pointer f → Different T e f → Different T x y
  -- "Two function types are identical if they have the same number of parameters and result values, corresponding parameter and result types are identical,
  --  and either both functions are variadic or neither is." (Parameters and results are tuples of types.)
  func-parameters : {x y p r q s : TypeKey} {v w : Bool} → kind_at T x ≡ Func v p r → kind_at T y ≡ Func w q s → Different T p q → Different T x y
  func-results : {x y p r q s : TypeKey} {v w : Bool} → kind_at T x ≡ Func v p r → kind_at T y ≡ Func w q s → Different T r s → Different T x y
  func-variadic : {x y p r q s : TypeKey} {v w : Bool} → kind_at T x ≡ Func v p r → kind_at T y ≡ Func w q s → (v ≡ w → ⊥) → Different T x y
  tuple-counts : {x y : TypeKey} {es fs : List TypeKey} → kind_at T x ≡ Tuple es → kind_at T y ≡ Tuple fs → (length es ≡ length fs → ⊥) → Different T x y
  tuple-types : {x y e f : TypeKey} {i : ℕ} {es fs : List TypeKey} → kind_at T x ≡ Tuple es → kind_at T y ≡ Tuple fs → At es i e → At fs i f
      → Different T e f → Different T x y
  -- "Two interface types are identical if they define the same type set." A table's interfaces have methods only: the same methods, of identical types.
  iface-lacks : {x y : TypeKey} {ms ns : List Member} (m : Member) → kind_at T x ≡ Iface ms → kind_at T y ≡ Iface ns → In m ms
      → ((n : Member) → In n ns → DifferentNames T m n) → Different T x y
  iface-adds : {x y : TypeKey} {ms ns : List Member} (n : Member) → kind_at T x ≡ Iface ms → kind_at T y ≡ Iface ns → In n ns
      → ((m : Member) → In m ms → DifferentNames T m n) → Different T x y
  iface-types : {x y : TypeKey} {ms ns : List Member} (m n : Member) → kind_at T x ≡ Iface ms → kind_at T y ≡ Iface ns → In m ms → In n ns
      → SameNames T m n → Different T m.type n.type → Different T x y
  -- "Two map types are identical if they have identical key and element types."
  map_keys : {x y j e k f : TypeKey} → kind_at T x ≡ Map j e → kind_at T y ≡ Map k f → Different T j k → Different T x y
  map-elements : {x y j e k f : TypeKey} → kind_at T x ≡ Map j e → kind_at T y ≡ Map k f → Different T e f → Different T x y
  -- "Two channel types are identical if they have identical element types and the same direction."
  chan-elements : {x y e f : TypeKey} {c d : Dir} → kind_at T x ≡ Chan c e → kind_at T y ≡ Chan d f → Different T e f → Different T x y
  chan-directions : {x y e f : TypeKey} {c d : Dir} → kind_at T x ≡ Chan c e → kind_at T y ≡ Chan d f → (c ≡ d → ⊥) → Different T x y

abbrev pub Identical : Table → TypeKey → TypeKey → Type 0
Identical T x y = Different T x y → ⊥

-- ---- Comparison operators

pub data Comparable (T : Table) : TypeKey → Type 0 where
  -- "Boolean values are comparable." "Integer values are comparable and ordered" "Floating-point values are comparable and ordered" "Complex values are
  -- comparable." "String values are comparable and ordered" (Every basic type but that of untyped nil, which has no such values.)
  basic-values : {t : TypeKey} {k : ℕ} → kind_at T t ≡ Basic k → (k ≡ untyped_nil → ⊥) → Comparable T t
  -- "Pointer values are comparable."
  pointer-values : {t e : TypeKey} → kind_at T t ≡ Pointer e → Comparable T t
  -- "Channel values are comparable."
  channel-values : {t e : TypeKey} {d : Dir} → kind_at T t ≡ Chan d e → Comparable T t
  -- "Interface values are comparable."
  interface-values : {t : TypeKey} {ms : List Member} → kind_at T t ≡ Iface ms → Comparable T t
  -- "Struct values are comparable if all their fields are comparable."
  struct-values : {t : TypeKey} {fs : List Member} → kind_at T t ≡ Struct fs → ((f : Member) → In f fs → Comparable T f.type) → Comparable T t
  -- "Array values are comparable if values of the array element type are comparable."
  array-values : {t e : TypeKey} {n : ℕ} → kind_at T t ≡ Array n e → Comparable T e → Comparable T t
  -- A defined type has the values of its underlying type.
  defined-values : {t u : TypeKey} {ms : List Member} → kind_at T t ≡ Named u ms → Comparable T u → Comparable T t
  -- "Slice, map, and function values are not comparable."
