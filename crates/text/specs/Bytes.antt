-- What the bytes of one field say: words, names, paths, tags and numbers, and the digits of a number that is printed.
use Rattle.std.specs.Prelude.{Bool, true, false, not, ◌&&◌, ◌||◌, [], ◌∷◌, ℕ, zero, suc, ◌+◌, ◌*◌, ◌-◌, ◌/◌, ◌%◌, eqb, ltb, leb, length}
use Rattle.std.proofs.Math.Option.{Option, none, some}
use Prim.Native.Char.{code}
use Prim.Native.String.{String, [] as []ˢ, ◌∷◌ as ◌∷ˢ◌}
use Rattle.objects.specs.Bounds.{max_name, max_path, max_tag}
use Rattle.objects.specs.Lists.{Bytes, every}

-- the bytes of a word of this paper: all its words are ASCII
abbrev pub ascii : String → Bytes
ascii []ˢ = []
ascii (c ∷ˢ s) = code c ∷ ascii s

abbrev pub same_bytes : Bytes → Bytes → Bool
same_bytes [] [] = true
same_bytes [] (y ∷ ys) = false
same_bytes (x ∷ xs) [] = false
same_bytes (x ∷ xs) (y ∷ ys) = eqb x y && same_bytes xs ys

-- "ascend by the bytes of the id": the first byte that differs decides, and a part comes before the whole
abbrev pub below_bytes : Bytes → Bytes → Bool
below_bytes [] [] = false
below_bytes [] (y ∷ ys) = true
below_bytes (x ∷ xs) [] = false
below_bytes (x ∷ xs) (y ∷ ys) = ltb x y || (eqb x y && below_bytes xs ys)

abbrev pub between : ℕ → ℕ → ℕ → Bool
between low high b = leb low b && leb b high

-- a length from 1 to max
abbrev pub sized : ℕ → Bytes → Bool
sized max s = between 1 max (length s)

abbrev pub is_digit : ℕ → Bool
is_digit b = between 48 57 b

abbrev pub is_capital : ℕ → Bool
is_capital b = between 65 90 b

-- "ASCII letters, digits and `_`"
abbrev pub is_name_byte : ℕ → Bool
is_name_byte b = is_capital b || between 97 122 b || is_digit b || eqb b 95

-- a test of the first byte
abbrev pub first_is : (ℕ → Bool) → Bytes → Bool
first_is p [] = false
first_is p (b ∷ s) = p b

-- "Names: 1 to 64 ASCII letters, digits and `_`, not starting with a digit"
unfoldable pub is_name : Bytes → Bool
is_name s = sized max_name s && not (first_is is_digit s) && every is_name_byte s

-- the name `_`, and a path of that one byte
unfoldable pub is_blank : Bytes → Bool
is_blank s = same_bytes s (ascii "_")

-- "`P path`: 1 to 128 bytes of 33 to 126, not `_` alone"
unfoldable pub is_path : Bytes → Bool
is_path s = sized max_path s && every (between 33 126) s && not (is_blank s)

-- "a sixth field of 1 to 128 bytes of 32 to 126"
unfoldable pub is_tag : Bytes → Bool
is_tag s = sized max_tag s && every (between 32 126) s

-- "`ast::is_exported` is taken as: first byte A to Z"
unfoldable pub exported : Bytes → Bool
exported s = first_is is_capital s

-- the number that digits stand for, after those that stand for v
unfoldable pub value_from : ℕ → Bytes → ℕ
value_from v [] = v
value_from v (b ∷ s) = value_from (v * 10 + (b - 48)) s

-- "0" or digits that do not begin with 0
unfoldable pub is_numeral : Bytes → Bool
is_numeral s = not (eqb (length s) 0) && every is_digit s && (eqb (length s) 1 || not (first_is (eqb 48) s))

-- "Numbers have no sign and no leading zero": the number of a field, if it is one and at most max
unfoldable pub number : ℕ → Bytes → Option ℕ
number max s = elim (is_numeral s && leb (value_from 0 s) max) [
  | true ↦ some (value_from 0 s)
  | false ↦ none
]

-- n's digits, at most k of them, before acc
unfoldable pub digits_on : ℕ → ℕ → Bytes → Bytes
digits_on zero n acc = acc
digits_on (suc k) n acc = elim (ltb n 10) [
  | true ↦ (48 + n) ∷ acc
  | false ↦ digits_on k (n / 10) ((48 + n % 10) ∷ acc)
]

-- "Numbers are in base ten": a number below 2 ^ 64 has at most 20 digits
unfoldable pub decimal : ℕ → Bytes
decimal n = digits_on 20 n []
