-- Kinds of one form have one kind number, and the other way round.
use mathlib.Core.Path.{◌≡◌, refl, subst}
use Prim.Native.Nat.{ℕ}
use Rattle.objects.specs.declared.TypeKey.{TypeKey}
use Rattle.objects.specs.declared.Dir.{Dir}
use mathlib.Core.Bool.{Bool}
use mathlib.Core.List.{List}
use Rattle.objects.specs.Table.{Member, Kind, Basic, Array, Slice, Pointer, Map, Chan, Tuple, Func, Struct, Iface, Named, kind_number}
use Rattle.gospec.specs.Go.{SameForm, basics, arrays, slices, pointers, maps, chans, tuples, funcs, structs, ifaces, nameds}

pub form-number : (k l : Kind) → SameForm k l → kind_number k ≡ kind_number l
form-number k l basics = refl
form-number k l arrays = refl
form-number k l slices = refl
form-number k l pointers = refl
form-number k l maps = refl
form-number k l chans = refl
form-number k l tuples = refl
form-number k l funcs = refl
form-number k l structs = refl
form-number k l ifaces = refl
form-number k l nameds = refl

-- the kinds of a number
data OfNumber : ℕ → Kind → Type 0 where
  basic : {k : ℕ} → OfNumber 0 (Basic k)
  array : {n : ℕ} {e : TypeKey} → OfNumber 1 (Array n e)
  slice : {e : TypeKey} → OfNumber 2 (Slice e)
  pointer : {e : TypeKey} → OfNumber 3 (Pointer e)
  mapping : {k e : TypeKey} → OfNumber 4 (Map k e)
  chan : {d : Dir} {e : TypeKey} → OfNumber 5 (Chan d e)
  tuple : {es : List TypeKey} → OfNumber 6 (Tuple es)
  func : {v : Bool} {p r : TypeKey} → OfNumber 7 (Func v p r)
  struct : {ms : List Member} → OfNumber 8 (Struct ms)
  iface : {ms : List Member} → OfNumber 9 (Iface ms)
  named : {u : TypeKey} {ms : List Member} → OfNumber 10 (Named u ms)

of_number : (k : Kind) → OfNumber (kind_number k) k
of_number (Basic k) = basic
of_number (Array n e) = array
of_number (Slice e) = slice
of_number (Pointer e) = pointer
of_number (Map k e) = mapping
of_number (Chan d e) = chan
of_number (Tuple es) = tuple
of_number (Func v p r) = func
of_number (Struct ms) = struct
of_number (Iface ms) = iface
of_number (Named u ms) = named

one_form : (n : ℕ) (k l : Kind) → OfNumber n k → OfNumber n l → SameForm k l
one_form n k l basic basic = basics
one_form n k l array array = arrays
one_form n k l slice slice = slices
one_form n k l pointer pointer = pointers
one_form n k l mapping mapping = maps
one_form n k l chan chan = chans
one_form n k l tuple tuple = tuples
one_form n k l func func = funcs
one_form n k l struct struct = structs
one_form n k l iface iface = ifaces
one_form n k l named named = nameds

pub number-form : (k l : Kind) → kind_number k ≡ kind_number l → SameForm k l
number-form k l e = one_form (kind_number l) k l (subst (λ n. OfNumber n k) e (of_number k)) (of_number l)
