-- Reading a line by its fields, from left to right: each reader takes what it wants and hands on the fields that are left.
use Rattle.std.specs.Prelude.{Bool, List, [], ◌∷◌}
use Rattle.std.proofs.Math.Option.{Option, none, some}
use Prim.Native.String.{String}
use Rattle.objects.specs.Lists.{Bytes, mapped}
use Rattle.text.specs.Bytes.{ascii, same_bytes}

-- what the fields give, with those that are left; none for a wrong form
abbrev pub Reader : Type 0 → Type 0
Reader A = List Bytes → Option (A × List Bytes)

infixl 20 ◌>>=◌
abbrev pub ◌>>=◌ : {A B : Type 0} → Reader A → (A → Reader B) → Reader B
◌>>=◌ r f = λ fs. elim (r fs) [ none ↦ none | some p ↦ f p.0 p.1 ]

-- the next field, as f reads it
abbrev pub field : {A : Type 0} → (Bytes → Option A) → Reader A
field f [] = none
field f (b ∷ fs) = mapped (λ a. (a, fs)) (f b)

-- all the fields that are left, each as f reads it
abbrev pub others : {A : Type 0} → (Bytes → Option A) → Reader (List A)
others f [] = some ([], [])
others f (b ∷ fs) = elim (f b) [
  | none ↦ none
  | some a ↦ mapped (λ p. (a ∷ p.0, p.1)) (others f fs)
]

-- the value, if no field is left
abbrev pub done : {A : Type 0} → A → Reader A
done a [] = some (a, [])
done a (b ∷ fs) = none

-- the value of a whole line
abbrev pub whole : {A : Type 0} → Reader A → List Bytes → Option A
whole r fs = mapped (λ p. p.0) (r fs)

abbrev pub is_word : String → Bytes → Bool
is_word w b = same_bytes b (ascii w)
