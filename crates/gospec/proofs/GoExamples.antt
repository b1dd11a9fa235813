-- The Go spec's own examples of method sets, computed from the rules: "Type definitions" (Mutex and Block), and the sentences of "Struct types" on receivers.
use mathlib.Core.Path.{◌≡◌, refl}
use mathlib.Core.List.{List, [], ◌∷◌, map}
use mathlib.Core.Option.{Option, none, some}
use Prim.Native.Nat.{ℕ}
use Rattle.objects.specs.Lists.{Bytes}
use Rattle.objects.specs.Table.{type_key}
use Rattle.rules.specs.Load.{loaded, refused, load}
use Rattle.rules.specs.Rows.{◌⏎◌, calling}
use Rattle.rules.specs.Ways.{places_of}
use Rattle.rules.specs.MethodSet.{method_set}

-- the places that M lists for type t of the table that a text loads as
abbrev set_of : Bytes → ℕ → Option (List (List ℕ))
set_of text t = elim (load text) [ refused n line ↦ none | loaded T ↦ some (map places_of (method_set T (type_key t))) ]

-- ---- receivers: N is 4, with A of receiver N and B of receiver *N; S is 5 and embeds N, *S is 6; Z is 8 and embeds *N; **S is 9; 10 embeds S and Z

abbrev receivers : Bytes
receivers =
    "typetable 1" ⏎
    "T basic 2" ⏎ "T tuple" ⏎ "T func 0 1 1" ⏎
    "T struct" ⏎ "T named 3" ⏎ "M A - 2 0" ⏎ "M B - 2 1" ⏎
    "T struct" ⏎ "F N - 4 1" ⏎ "T pointer 5" ⏎
    "T pointer 4" ⏎ "T struct" ⏎ "F N - 7 1" ⏎
    "T pointer 6" ⏎
    "T struct" ⏎ "F S - 5 1" ⏎ "F Z - 8 1" ⏎ []

value_set : set_of receivers 4 ≡ some ((0 ∷ []) ∷ [])
unfolding calling
value_set = refl

pointer-set : set_of receivers 7 ≡ some ((0 ∷ []) ∷ (1 ∷ []) ∷ [])
unfolding calling
pointer-set = refl

-- "If S contains an embedded field T, the method sets of S and *S both include promoted methods with receiver T."
struct-set : set_of receivers 5 ≡ some ((0 ∷ 0 ∷ []) ∷ [])
unfolding calling
struct-set = refl

-- "The method set of *S also includes promoted methods with receiver *T."
star-set : set_of receivers 6 ≡ some ((0 ∷ 0 ∷ []) ∷ (0 ∷ 1 ∷ []) ∷ [])
unfolding calling
star-set = refl

-- "If S contains an embedded field *T, the method sets of S and *S both include promoted methods with receiver T or *T."
behind-set : set_of receivers 8 ≡ some ((0 ∷ 0 ∷ []) ∷ (0 ∷ 1 ∷ []) ∷ [])
unfolding calling
behind-set = refl

-- "Any other type has an empty method set."
star-star-set : set_of receivers 9 ≡ some []
unfolding calling
star-star-set = refl

-- reached twice at one depth, the selector is illegal and nothing is promoted
twice-set : set_of receivers 10 ≡ some []
unfolding calling
twice-set = refl

-- ---- the examples of "Type definitions": Mutex is 3, NewMutex 4, *Mutex 5, PtrMutex 6, PrintableMutex 8, *PrintableMutex 9, Block 11, MyBlock 12, *NewMutex 13

abbrev mutexes : Bytes
mutexes =
    "typetable 1" ⏎
    "T tuple" ⏎ "T func 0 0 0" ⏎
    "T struct" ⏎ "T named 2" ⏎ "M Lock - 1 1" ⏎ "M Unlock - 1 1" ⏎
    "T named 2" ⏎ "T pointer 3" ⏎ "T named 5" ⏎
    "T struct" ⏎ "F Mutex - 3 1" ⏎ "T named 7" ⏎ "T pointer 8" ⏎
    "T iface" ⏎ "M BlockSize - 1 0" ⏎ "M Decrypt - 1 0" ⏎ "M Encrypt - 1 0" ⏎
    "T named 10" ⏎ "T named 10" ⏎ "T pointer 4" ⏎ []

-- "A Mutex is a data type with two methods, Lock and Unlock": with receiver *Mutex
mutex-sets : (set_of mutexes 3 ≡ some []) × (set_of mutexes 5 ≡ some ((0 ∷ []) ∷ (1 ∷ []) ∷ []))
unfolding calling
mutex-sets = (refl, refl)

-- "NewMutex has the same composition as Mutex but its method set is empty."
new-mutex-sets : (set_of mutexes 4 ≡ some []) × (set_of mutexes 13 ≡ some [])
unfolding calling
new-mutex-sets = (refl, refl)

-- "the method set of PtrMutex is empty."
ptr-mutex-set : set_of mutexes 6 ≡ some []
unfolding calling
ptr-mutex-set = refl

-- "The method set of *PrintableMutex contains the methods Lock and Unlock bound to its embedded field Mutex."
printable-sets : (set_of mutexes 8 ≡ some []) × (set_of mutexes 9 ≡ some ((0 ∷ 0 ∷ []) ∷ (0 ∷ 1 ∷ []) ∷ []))
unfolding calling
printable-sets = (refl, refl)

-- "MyBlock is an interface type that has the same method set as Block."
block-sets : (set_of mutexes 11 ≡ some ((0 ∷ []) ∷ (1 ∷ []) ∷ (2 ∷ []) ∷ [])) × (set_of mutexes 12 ≡ set_of mutexes 11)
unfolding calling
block-sets = (refl, refl)
