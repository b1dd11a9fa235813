-- Rows of the definitions by computation: what each reader gives on a short line, and what it refuses.
use mathlib.Core.Path.{◌≡◌, refl}
use mathlib.Core.Bool.{true, false}
use mathlib.Core.List.{[], ◌∷◌}
use mathlib.Core.Option.{none, some}
use Rattle.objects.specs.Lists.{Bytes, when}
use Rattle.text.specs.declared.Cursor.{Cursor}
use Rattle.std.specs.declared.cmp.Ordering.TheVariants.{Less, Greater}
use Rattle.text.specs.Bytes.{ascii, is_name, is_blank, is_path, is_tag, is_numeral, value_from, number}
use Rattle.text.specs.Lines.{split, fields}
use Rattle.text.specs.Readers.{field}
use Rattle.text.specs.Cursors.{part, line_length, line_end, fields_left, exactly}
use Rattle.text.specs.Compare.{order_of}

-- "T\tx_1\t07\n9": a line of three fields, and a text behind it without newline
abbrev text : Bytes
text = 84 ∷ 9 ∷ 120 ∷ 95 ∷ 49 ∷ 9 ∷ 48 ∷ 55 ∷ 10 ∷ 57 ∷ []

abbrev all : Cursor
all = record { at = 0; end = 8; more = true }

line-ends : line_end text 0 ≡ 8
unfolding line_end line_length
line-ends = refl

text-ends : line_end text 9 ≡ 10
unfolding line_end line_length
text-ends = refl

first_field : field some (fields_left text all) ≡ some (ascii "T", ascii "x_1" ∷ ascii "07" ∷ [])
unfolding fields_left part fields split
first_field = refl

a_word : exactly (ascii "T") (fields_left text all) ≡ some (ascii "x_1" ∷ ascii "07" ∷ [])
unfolding exactly fields_left part fields split
a_word = refl

no-prefix : exactly (ascii "x") (fields_left text (record { at = 2; end = 8; more = true })) ≡ none
unfolding exactly fields_left part fields split
no-prefix = refl

a-name : field (λ b. when (is_name b) b) (fields_left text (record { at = 2; end = 8; more = true })) ≡ some (ascii "x_1", ascii "07" ∷ [])
unfolding is_name fields_left part fields split
a-name = refl

no-digit-first : is_name (ascii "1x") ≡ false
unfolding is_name
no-digit-first = refl

blank-name : is_name (ascii "_") ≡ true
unfolding is_name
blank-name = refl

no-blank-path : is_path (ascii "_") ≡ false
unfolding is_path is_blank
no-blank-path = refl

tag-with-space : is_tag (ascii "a b") ≡ true
unfolding is_tag
tag-with-space = refl

no-leading-zero : field (number 99) (fields_left text (record { at = 6; end = 8; more = true })) ≡ none
unfolding number is_numeral value_from fields_left part fields split
no-leading-zero = refl

zero-itself : number 0 (ascii "0") ≡ some 0
unfolding number is_numeral value_from
zero-itself = refl

at-most-max : number 255 (ascii "255") ≡ some 255
unfolding number is_numeral value_from
at-most-max = refl

past-max : number 255 (ascii "256") ≡ none
unfolding number is_numeral value_from
past-max = refl

no_sign : number 255 (ascii "+1") ≡ none
unfolding number is_numeral value_from
no_sign = refl

part-before-whole : order_of (ascii "ab") (ascii "abc") ≡ Less
unfolding order_of
part-before-whole = refl

first-difference : order_of (ascii "b") (ascii "abc") ≡ Greater
unfolding order_of
first-difference = refl
