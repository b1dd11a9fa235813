-- The lines of numbers that every answer is made of, and what it is to have written bytes into a buffer.
use Rattle.std.specs.Prelude.{◌≡◌, List, [], ◌∷◌, ◌++◌, map, ℕ, ◌+◌, ◌*◌, length}
use Rattle.std.proofs.lemmas.List.Edits.{sets}
use Rattle.objects.specs.Bounds.{max_places}
use Rattle.objects.specs.Lists.{Bytes}
use Rattle.text.specs.Bytes.{decimal}
use Rattle.rules.specs.Answer.{tabbed, line_bytes}

-- the longest word has 11 bytes; a line has a way's places, a member and a flag at most
abbrev pub max_word : ℕ
max_word = 16

abbrev pub max_fields : ℕ
max_fields = max_places + 2

-- Bytes of a line at most: each number takes a tab and 20 digits (`decimal-any`), and there is a newline.
abbrev pub max_line : ℕ
max_line = max_word + 21 * max_fields + 1

-- a word and numbers
unfoldable pub number_line : Bytes → List ℕ → Bytes
number_line word ns = line_bytes word (map decimal ns)

-- what stands behind the word, or behind some of the numbers
unfoldable pub line_end : List ℕ → Bytes
line_end ns = tabbed (map decimal ns) ++ (10 ∷ [])

-- the buffer with the bytes w from the place at on, all else unchanged
unfoldable pub written : Bytes → ℕ → Bytes → Bytes
written out at w = sets out at w

-- w was written into out from the place at on: out' is the buffer now, and r the place behind w
pub record Wrote (out : Bytes) (at : ℕ) (w out' : Bytes) (r : ℕ) : Type 0 where
  pub past : r ≡ at + length w
  pub text : out' ≡ written out at w
