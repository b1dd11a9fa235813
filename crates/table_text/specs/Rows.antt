-- The lines of a table that rows hold, as the code writes them: the T line of a type is the word of its kind and numbers.
use Rattle.std.specs.Prelude.{cond, ◌||◌, List, [], ◌∷◌, ◌++◌, map, ℕ, zero, suc, ◌+◌, ◌-◌, ◌<◌, eqb, ltb, length, get_or}
use Rattle.objects.specs.Bounds.{word_values}
use Rattle.objects.specs.Lists.{Bytes}
use Rattle.objects.specs.declared.TypeKey.{TypeKey}
use Rattle.objects.specs.declared.ObjKey.{ObjKey}
use Rattle.objects.specs.declared.PackageKey.{PackageKey}
use Rattle.objects.specs.Rows.{Words, dir_at, bytes_at, elements_from, kind_read, path_read, member_at, pkg_of, package_count, type_count}
use Rattle.objects.specs.Table.{Member, Kind, bit, dir_number, obj_key, type_key, package_key}
use Rattle.objects.specs.Types.{number_read, first_read, total_read}
use Rattle.text.specs.Bytes.{ascii}
use Rattle.rules.specs.Answer.{tabbed}
use Rattle.rules.specs.Forms.{package_line}
use Rattle.edits.specs.Carried.{carry_member, carry_kind}
use Rattle.edits.specs.TableText.{package_bytes, tag_fields, line_body, line_of_type, line_of_member}

-- ---- references by lent numbers: a type that they do not reach keeps its own, so that no numbers leave every reference as it is

unfoldable pub carried_number : Words → ℕ → ℕ
carried_number numbers n = cond (ltb n (length numbers)) (get_or numbers n 0) n

abbrev pub carried_type : Words → TypeKey → TypeKey
carried_type numbers t = type_key (carried_number numbers t.0)

abbrev pub carried_kind : Words → Kind → Kind
carried_kind numbers k = carry_kind (carried_type numbers) (λ (p : PackageKey). p) k

abbrev pub carried_member : Words → Member → Member
carried_member numbers m = carry_member (carried_type numbers) (λ (p : PackageKey). p) m

-- ---- T lines

-- the T line of type t, with its newline; it says nothing of the text, since members have lines of their own
unfoldable pub type_text : Words → Words → TypeKey → Bytes
type_text numbers rows t = line_body (line_of_type (carried_kind numbers (kind_read [] rows t))) ++ (10 ∷ [])

-- `T` and the word of each kind, one behind the other, and where each begins
abbrev pub kind_words : Bytes
kind_words = ascii "T\tbasicT\tarrayT\tsliceT\tpointerT\tmapT\tchanT\ttupleT\tfuncT\tstructT\tifaceT\tnamed"

abbrev pub word_starts : List ℕ
word_starts = 0 ∷ 7 ∷ 14 ∷ 21 ∷ 30 ∷ 35 ∷ 41 ∷ 48 ∷ 54 ∷ 62 ∷ 69 ∷ 76 ∷ []

unfoldable pub kind_word : ℕ → Bytes
kind_word k = bytes_at kind_words (get_or word_starts k 0) (get_or word_starts (suc k) 0 - get_or word_starts k 0)

-- how many numbers a T line has, a tuple's elements apart
abbrev pub number_counts : List ℕ
number_counts = 1 ∷ 2 ∷ 1 ∷ 1 ∷ 2 ∷ 2 ∷ 0 ∷ 3 ∷ 0 ∷ 0 ∷ 1 ∷ []

-- the first of them: a channel's direction and a function's mark are one of 0, 1 and 2; basic and array have a number, the others a type
unfoldable pub first_number : Words → ℕ → ℕ → ℕ
first_number numbers k a = cond (eqb k 5) (dir_number (dir_at a)) (cond (eqb k 7) (bit (eqb a 1)) (cond (ltb k 2) a (carried_number numbers a)))

-- the numbers of a tuple's elements
unfoldable pub element_numbers : Words → Words → ℕ → ℕ → List ℕ
element_numbers numbers rows first count = map (λ e. carried_number numbers e.0) (elements_from [] rows first count)

-- ---- P, F and M lines: names, paths and tags stand in the text

unfoldable pub package_text : Bytes → Words → PackageKey → Bytes
package_text text rows p = line_body (package_line (path_read text rows p)) ++ (10 ∷ [])

unfoldable pub member_text : Words → Bytes → Words → ObjKey → Bytes
member_text numbers text rows m = line_body (line_of_member (carried_member numbers (member_at text rows m))) ++ (10 ∷ [])

-- by a member's form (0 a field, 1 an embedded field, 2 a method, 3 a method with pointer receiver): its letter, its mark and its tag
unfoldable pub form_letter : ℕ → Bytes
form_letter form = cond (ltb 1 form) (ascii "M\t") (ascii "F\t")

unfoldable pub form_flag : ℕ → ℕ
form_flag form = cond (eqb form 1 || ltb 2 form) 1 0

unfoldable pub form_tag : ℕ → Bytes → Bytes
form_tag form tag = cond (ltb 1 form) [] (tabbed (tag_fields tag))

-- a tab and a package
unfoldable pub package_field : ℕ → Bytes
package_field n = 9 ∷ package_bytes (pkg_of n)

-- ---- line after line

-- n pieces from the number `first` on
unfoldable pub pieces_from : (ℕ → Bytes) → ℕ → ℕ → Bytes
pieces_from f first zero = []
pieces_from f first (suc n) = f first ++ pieces_from f (suc first) n

-- the F or M lines of n members
abbrev pub members_text : Words → Bytes → Words → ℕ → ℕ → Bytes
members_text numbers text rows first n = pieces_from (λ i. member_text numbers text rows (obj_key i)) first n

-- the T line of a type, and its F or M lines if its kind has members (8 struct, 9 iface, 10 named)
unfoldable pub type_lines_text : Words → Bytes → Words → TypeKey → Bytes
type_lines_text numbers text rows t = type_text numbers rows t ++ cond (ltb (number_read rows t) 8) [] (members_text numbers text rows (first_read rows t) (total_read rows t))

-- all P lines, all types with their members, and the whole text
abbrev pub packages_text : Bytes → Words → Bytes
packages_text text rows = pieces_from (λ i. package_text text rows (package_key i)) 0 (package_count rows)

abbrev pub types_text : Words → Bytes → Words → Bytes
types_text numbers text rows = pieces_from (λ i. type_lines_text numbers text rows (type_key i)) 0 (type_count rows)

unfoldable pub rows_text : Bytes → Words → Bytes
rows_text text rows = ascii "typetable\t1\n" ++ (packages_text text rows ++ types_text [] text rows)

-- the members or elements of a type, by 32-bit numbers: true of rows in order (`Laid`)
abbrev pub Small : Words → Type 0
Small rows = (t : TypeKey) → t.0 < type_count rows → first_read rows t + total_read rows t < word_values
