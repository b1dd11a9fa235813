-- How long the text of a table is: the sum of its lines, each the sum of its fields. And what `numbered` leaves as it was.
use mathlib.Core.Path.{◌≡◌, refl, ap₂, ◌∙◌}
use mathlib.Core.List.{List, [], ◌∷◌, ◌++◌, map}
use Prim.Native.Nat.{ℕ, ◌+◌}
use native.Mathlib.Omega.{arith}
use lib.ListN.{length, length-append}
use Rattle.objects.specs.Lists.{Bytes}
use Rattle.objects.specs.Table.{Table, Field, Method}
use Rattle.rules.specs.Answer.{tabbed}
use Rattle.rules.specs.Forms.{Line, package_line, type_line, member_line}
use Rattle.edits.specs.TableText.{letter_of, behind_letter, line_body, lines_of, ended, text_of}
use Rattle.table_text.specs.Numbered.{numbered, sum, line_size, text_size}

-- ---- lengths

tabs-size : (fs : List Bytes) → length (tabbed fs) ≡ sum (map (λ f. 1 + length f) fs)
tabs-size [] = refl
tabs-size (f ∷ fs) = omega (arith, length-append (9 ∷ f) (tabbed fs), tabs-size fs)

letter-one : (l : Line) → length (letter_of l) ≡ 1
letter-one (package_line path) = refl
letter-one (type_line k) = refl
letter-one (member_line name pkg type (Field emb tag)) = refl
letter-one (member_line name pkg type (Method ptr)) = refl

line-size : (l : Line) → length (line_body l ++ (10 ∷ [])) ≡ line_size l
unfolding line_body line_size
line-size l =
    omega (
      arith,
      length-append (letter_of l ++ tabbed (behind_letter l)) (10 ∷ []),
      length-append (letter_of l) (tabbed (behind_letter l)),
      letter-one l,
      tabs-size (behind_letter l),
    )

lines-size : (ls : List Line) → length (ended (map line_body ls)) ≡ sum (map line_size ls)
lines-size [] = refl
lines-size (l ∷ ls) = length-append (line_body l ++ (10 ∷ [])) (ended (map line_body ls)) ∙ ap₂ (λ a b. a + b) (line-size l) (lines-size ls)

-- THE LENGTH OF THE TEXT
pub text-length : (T : Table) → length (text_of T) ≡ text_size T
unfolding text_of text_size
text-length T = omega (arith, lines-size (lines_of T))

-- what is added to the lines is added to the length
pub sum-append : (ns ms : List ℕ) → sum (ns ++ ms) ≡ sum ns + sum ms
sum-append [] ms = omega arith
sum-append (n ∷ ns) ms = omega (arith, sum-append ns ms)

-- ---- line numbers alone

-- `numbered` sets the line numbers and nothing else, and the text does not show them
pub numbered-keeps : (T : Table) → ((numbered T).packages ≡ T.packages) × ((numbered T).types ≡ T.types) × (text_of (numbered T) ≡ text_of T) × (numbered (numbered T) ≡ numbered T)
unfolding numbered lines_of text_of
numbered-keeps T = (refl, refl, refl, refl)
