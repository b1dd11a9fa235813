-- Tests and parts of lists, for the definitions of every crate.
use Rattle.std.specs.Prelude.{◌≡◌, Bool, true, false, cond, ◌&&◌, ◌||◌, List, [], ◌∷◌, ◌++◌, ◌⊎◌, ℕ, zero, suc}
use Rattle.std.proofs.Math.Option.{Option, none, some}

-- a text, or a part of one
abbrev pub Bytes : Type 0
Bytes = List ℕ

module _ {A : Type 0} where
  -- one of the list passes the test
  abbrev pub any : (A → Bool) → List A → Bool
  any p [] = false
  any p (x ∷ xs) = p x || any p xs

  -- each of the list passes it
  abbrev pub every : (A → Bool) → List A → Bool
  every p [] = true
  every p (x ∷ xs) = p x && every p xs

  -- those that pass it, in order
  abbrev pub keep : (A → Bool) → List A → List A
  keep p [] = []
  keep p (x ∷ xs) = cond (p x) (x ∷ keep p xs) (keep p xs)

  abbrev pub empty : List A → Bool
  empty [] = true
  empty (x ∷ xs) = false

  -- the first, or another
  abbrev pub head_or : A → List A → A
  head_or d [] = d
  head_or d (x ∷ xs) = x

  -- the last, or another
  abbrev pub last_or : A → List A → A
  last_or d [] = d
  last_or d (x ∷ xs) = last_or x xs

  -- the last alone, nothing of nothing
  abbrev pub last_of : List A → List A
  last_of [] = []
  last_of (x ∷ []) = x ∷ []
  last_of (x ∷ y ∷ l) = last_of (y ∷ l)

  -- the last one changed
  abbrev pub on_last : (A → A) → List A → List A
  on_last f [] = []
  on_last f (x ∷ []) = f x ∷ []
  on_last f (x ∷ y ∷ l) = x ∷ on_last f (y ∷ l)

  -- one of the list
  abbrev pub In : A → List A → Type 0
  In x [] = ⊥
  In x (y ∷ ys) = (x ≡ y) ⊎ In x ys

  -- each before all that come after it
  abbrev pub Sorted : (A → A → Type 0) → List A → Type 0
  Sorted R [] = Unit {0}
  Sorted R (x ∷ xs) = ((y : A) → In y xs → R x y) × Sorted R xs

  abbrev pub when : Bool → A → Option A
  when true a = some a
  when false a = none

module _ {A B : Type 0} where
  -- the lists that f gives, one after the other
  abbrev pub flat : (A → List B) → List A → List B
  flat f [] = []
  flat f (x ∷ xs) = f x ++ flat f xs

  abbrev pub mapped : (A → B) → Option A → Option B
  mapped f none = none
  mapped f (some a) = some (f a)

-- 0 to n - 1
abbrev pub up_to : ℕ → List ℕ
up_to zero = []
up_to (suc n) = up_to n ++ (n ∷ [])
