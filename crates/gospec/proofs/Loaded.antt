-- THE RULES ARE GO'S, for every table that loads: selection, identity, comparability, method sets, and with s 1 what a type lacks of an interface.
use mathlib.Core.Path.{◌≡◌}
use mathlib.Core.Bool.{Bool, true}
use mathlib.Core.List.{List, map}
use mathlib.Core.Logic.{◌↔◌}
use mathlib.Core.Option.{Option, none}
use Prim.Native.Nat.{ℕ, ◌<◌}
use Rattle.objects.specs.Lists.{Bytes, In, Sorted}
use Rattle.objects.specs.declared.TypeKey.{TypeKey}
use Rattle.objects.specs.declared.PackageKey.{PackageKey}
use Rattle.objects.specs.Table.{Table, Member, Iface, size}
use Rattle.rules.specs.Load.{load, loaded}
use Rattle.rules.specs.Members.{identity_from, identity_of}
use Rattle.rules.specs.Identity.{identical}
use Rattle.rules.specs.Comparable.{comparable}
use Rattle.rules.specs.Ways.{Way, member_of, Selected, select}
use Rattle.rules.specs.MethodSet.{method_set}
use Rattle.rules.specs.Missing.{missing}
use Rattle.rules.proofs.Sounds.{loads-sound}
use Rattle.rules.proofs.MethodNames.{Lower}
use Rattle.gospec.specs.Go.{SameNames, Identical, Comparable}
use Rattle.gospec.specs.GoSelectors.{OneStar, underlying}
use Rattle.gospec.specs.Says.{blank, Says, Alike}
use Rattle.gospec.specs.GoImplements.{HasMethod, Implements}
use Rattle.gospec.specs.GoMethodSets.{MethodSet, SetIncludes}
use Rattle.gospec.specs.Lists.{Lists}
use Rattle.gospec.proofs.IdentityGo as identity
use Rattle.gospec.proofs.ComparableGo as comparability
use Rattle.gospec.proofs.SelectGo as selection
use Rattle.gospec.proofs.Implements as implements
use Rattle.gospec.proofs.MethodSetGo as sets
use Rattle.gospec.proofs.Includes as includes

module _ (text : Bytes) (T : Table) (h : load text ≡ loaded T) where
  pub identity-is-go : (x y : TypeKey) → (identical T x y ≡ true) ↔ Identical T x y
  identity-is-go = identity.identical-is-go T (loads-sound text T h)

  pub comparability-is-go : (t : TypeKey) → (comparable T t ≡ true) ↔ Comparable T t
  comparability-is-go = comparability.comparability-is-go T (loads-sound text T h)

  -- what S gives is what the Go spec says, `(*x).f` read as document 01 reads it ..
  pub selection-is-go : (x : TypeKey) → x.0 < size T → (a : Bool) (pkg : Option PackageKey) (name : Bytes) → Says T (OneStar T) name pkg x a (select T (identity_from T pkg name) x a)
  selection-is-go = selection.select-is-go T (loads-sound text T h)

  -- .. and it says nothing else, but for the ways that `ambiguous` shows
  pub go-is-selection : (x : TypeKey) → x.0 < size T → (a : Bool) (pkg : Option PackageKey) (name : Bytes) (r : Selected) → Says T (OneStar T) name pkg x a r → Alike r (select T (identity_from T pkg name) x a)
  go-is-selection = selection.go-is-select T (loads-sound text T h)

  pub satisfied-is-go : (t i : TypeKey) → t.0 < size T → (ms : List Member) → underlying T i ≡ Iface ms → (missing T t i true ≡ none) ↔ Implements T (OneStar T) t i
  satisfied-is-go = implements.satisfied-is-go T (loads-sound text T h)

  module _ (t : TypeKey) (in0 : t.0 < size T) where
    -- M lists m at the places ps exactly if Go's method set of t has m there
    pub method-set-is-go : (ps : List ℕ) (m : Member) → Lists T t ps m ↔ MethodSet T t ps m
    method-set-is-go = sets.method-set-is-go T (loads-sound text T h) t in0

    -- ascending by id, each identity once
    pub set-ascends : Sorted Lower (map (λ w. identity_of T (member_of w)) (method_set T t))
    set-ascends = sets.set-ascends T (loads-sound text T h) t in0

    pub set-once : (v w : Way) → In v (method_set T t) → In w (method_set T t) → identity_of T (member_of v) ≡ identity_of T (member_of w) → v ≡ w
    set-once = sets.set-once T (loads-sound text T h) t in0

    -- "In a method set, each method must have a unique non-blank method name."
    pub unique-name : (ps qs : List ℕ) (m n : Member) → MethodSet T t ps m → MethodSet T t qs n → SameNames T m n → (m ≡ n) × (ps ≡ qs)
    unique-name = sets.unique-name T (loads-sound text T h) t in0

    pub named-all : (ps : List ℕ) (m : Member) → MethodSet T t ps m → m.name ≡ blank → ⊥
    named-all = sets.named-all T (loads-sound text T h) t in0

    -- "its method set includes m", as `Implements` has it and by the method set
    pub has-method-is-set : (m : Member) → HasMethod T (OneStar T) t m ↔ SetIncludes T t m
    has-method-is-set = includes.has-method-is-set T (loads-sound text T h) t in0
