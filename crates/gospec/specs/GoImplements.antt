-- The Go Programming Language Specification (version of June 29, 2022), section "Interface types", "Implementing an interface", as a relation over the table.
use Rattle.std.specs.Prelude.{◌≡◌, Bool, true, false, List, ℕ}
use Rattle.objects.specs.Lists.{In}
use Rattle.objects.specs.declared.TypeKey.{TypeKey}
use Rattle.objects.specs.Table.{Table, Member, is_method, Iface}
use Rattle.gospec.specs.Go.{SameNames, Identical}
use Rattle.gospec.specs.GoSelectors.{underlying, Denotes, Callable}
use Rattle.gospec.specs.Says.{blank}

-- t's method set includes m: "x.f is a legal selector that denotes that .. method f" (Struct types, of promoted methods), the method set of t itself contains
-- it (no address is taken), and its type is m's.
pub record HasMethod (T : Table) (R : TypeKey → Type 0) (t : TypeKey) (m : Member) : Type 0 where
  pub places : List ℕ
  pub found : Member
  pub flag : Bool
  pub named : m.name ≡ blank → ⊥
  pub denotes : Denotes T R m.name m.pkg t places found flag
  pub method : is_method found.entity ≡ true
  pub callable : Callable T false t places found
  pub same-type : Identical T m.type found.type

-- an interface with the methods ns has m
pub record ListsMethod (T : Table) (ns : List Member) (m : Member) : Type 0 where
  pub found : Member
  pub listed : In found ns
  pub same_name : SameNames T m found
  pub same-type : Identical T m.type found.type

-- "A type T implements an interface I if
pub data Implements (T : Table) (R : TypeKey → Type 0) (t i : TypeKey) : Type 0 where
  --  T is not an interface and is an element of the type set of I; or
  --  (The type set of an interface that has methods only: the types whose method sets include each of them.)
  an-element : {ms : List Member} → underlying T i ≡ Iface ms → ((ns : List Member) → underlying T t ≡ Iface ns → ⊥) → ((m : Member) → In m ms → HasMethod T R t m) → Implements T R t i
  --  T is an interface and the type set of T is a subset of the type set of I."
  a-subset : {ms ns : List Member} → underlying T i ≡ Iface ms → underlying T t ≡ Iface ns → ((m : Member) → In m ms → ListsMethod T ns m) → Implements T R t i
