-- Marks in lent words: one bit each, 32 to a word, 0 until it is set.
use Rattle.std.specs.Prelude.{Bool, List, [], ◌∷◌, ℕ, zero, suc, ◌+◌, ◌-◌, ◌/◌, ◌%◌, ◌^◌, eqb, get_or, set}

unfoldable pub bit_at : ℕ → ℕ → ℕ
bit_at w k = w / 2 ^ k % 2

unfoldable pub met : List ℕ → ℕ → Bool
met l p = eqb (bit_at (get_or l (p / 32) 0) (p % 32)) 1

unfoldable pub meet : List ℕ → ℕ → List ℕ
meet l p = set l (p / 32) (get_or l (p / 32) 0 + 2 ^ (p % 32))

-- how many of the first n bits of w are 0
unfoldable pub zeros : ℕ → ℕ → ℕ
zeros zero w = 0
zeros (suc n) w = (1 - w % 2) + zeros n (w / 2)

-- how many marks are not set
unfoldable pub unmet : List ℕ → ℕ
unmet [] = 0
unmet (w ∷ l) = zeros 32 w + unmet l
