-- A line read field by field: one step for each reader, shut, so that a chain of steps is a chain of equations.
use mathlib.Core.Path.{◌≡◌, ap}
use mathlib.Core.List.{List}
use mathlib.Core.Option.{Option, none, some}
use Rattle.objects.specs.Lists.{Bytes, mapped}
use Rattle.text.specs.Readers.{Reader, ◌>>=◌}

-- a reader, and what goes on from its value
unfoldable pub then_read : {A Q : Type 0} → Reader A → (A → Reader Q) → Reader Q
then_read r g fs = (r >>= g) fs

-- the value that was read
unfoldable pub value_of : {Q : Type 0} → Option (Q × List Bytes) → Option Q
value_of o = mapped (λ p. p.0) o

module _ {A Q : Type 0} (r : Reader A) (g : A → Reader Q) (fs : List Bytes) where
  pub then-on : {a : A} {rest : List Bytes} → r fs ≡ some (a, rest) → then_read r g fs ≡ g a rest
  unfolding then_read
  then-on h = ap (λ (o : Option (A × List Bytes)). elim o [ none ↦ none | some p ↦ g p.0 p.1 ]) h

  pub then-out : r fs ≡ none → then_read r g fs ≡ none
  unfolding then_read
  then-out h = ap (λ (o : Option (A × List Bytes)). elim o [ none ↦ none | some p ↦ g p.0 p.1 ]) h

module _ {Q : Type 0} {x : Option (Q × List Bytes)} where
  pub value_none : x ≡ none → value_of x ≡ none
  unfolding value_of
  value_none h = ap value_of h

  pub value-is : {y : Option (Q × List Bytes)} → x ≡ y → value_of x ≡ mapped (λ p. p.0) y
  unfolding value_of
  value-is h = ap value_of h
