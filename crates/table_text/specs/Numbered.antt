-- The line that each type and each member of a table stands on in its text, and how long that text is.
use Rattle.std.specs.Prelude.{◌≡◌, Bool, true, false, cond, List, [], ◌∷◌, map, ℕ, suc, ◌+◌, length}
use Rattle.objects.specs.Table.{Table, with_type_lines, with_member_lines}
use Rattle.rules.specs.Forms.{Line, package_line, type_line, member_line}
use Rattle.edits.specs.TableText.{behind_letter, lines_of}

-- ---- line numbers: the header is line 1

-- the numbers of the lines that pass the test, if the first of the list is line n
abbrev pub line_numbers : (Line → Bool) → ℕ → List Line → List ℕ
line_numbers p n [] = []
line_numbers p n (l ∷ ls) = cond (p l) (n ∷ line_numbers p (suc n) ls) (line_numbers p (suc n) ls)

abbrev pub is_type_line : Line → Bool
is_type_line (package_line path) = false
is_type_line (type_line k) = true
is_type_line (member_line name pkg type entity) = false

abbrev pub is_member_line : Line → Bool
is_member_line (package_line path) = false
is_member_line (type_line k) = false
is_member_line (member_line name pkg type entity) = true

-- the table with its types and members on the lines that its text puts them on
unfoldable pub numbered : Table → Table
numbered T = with_type_lines (line_numbers is_type_line 2 (lines_of T)) (with_member_lines (line_numbers is_member_line 2 (lines_of T)) T)

-- they stand there already
abbrev pub LinesNumbered : Table → Type 0
LinesNumbered T = numbered T ≡ T

-- ---- how long it is

abbrev pub sum : List ℕ → ℕ
sum [] = 0
sum (n ∷ ns) = n + sum ns

-- the letter and the newline, and a tab with its bytes for each field
unfoldable pub line_size : Line → ℕ
line_size l = 2 + sum (map (λ f. 1 + length f) (behind_letter l))

-- the header's 12 bytes, and those of the lines
unfoldable pub text_size : Table → ℕ
text_size T = 12 + sum (map line_size (lines_of T))
