-- A text as its lines, and a line as its fields.
use Rattle.std.specs.Prelude.{Bool, true, false, List, [], ◌∷◌, eqb, ℕ}
use Rattle.objects.specs.Lists.{Bytes}

-- a byte in front of pieces: it parts them, or it belongs to the first
abbrev pub before : Bool → ℕ → List Bytes → List Bytes
before true b ps = [] ∷ ps
before false b [] = (b ∷ []) ∷ []
before false b (p ∷ ps) = (b ∷ p) ∷ ps

-- the pieces between the separators, always one more than there are separators
unfoldable pub split : ℕ → Bytes → List Bytes
split sep [] = [] ∷ []
split sep (b ∷ s) = before (eqb b sep) b (split sep s)

-- Every piece but the last is a line and had its newline; the last is what stands behind the last newline.
unfoldable pub pieces : Bytes → List Bytes
pieces text = split 10 text

-- "Fields are parted by one tab"
unfoldable pub fields : Bytes → List Bytes
fields line = split 9 line
