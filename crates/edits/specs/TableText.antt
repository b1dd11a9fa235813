-- THE TEXT OF A TABLE: the lines that it stands for, in the order of document 01, each written in the one way that loading reads. One text for one table.
use Rattle.std.specs.Prelude.{List, [], ◌∷◌, ◌++◌, map}
use Rattle.std.proofs.Math.Option.{Option, none, some}
use Rattle.objects.specs.Lists.{Bytes, flat}
use Rattle.objects.specs.declared.TypeKey.{TypeKey}
use Rattle.objects.specs.declared.PackageKey.{PackageKey}
use Rattle.objects.specs.Table.{Table, dir_number, Field, Method, Member, Kind, Basic, Array, Slice, Pointer, Map, Chan, Tuple, Func, Struct, Iface, Named, members_of}
use Rattle.text.specs.Bytes.{ascii, decimal}
use Rattle.rules.specs.Answer.{tabbed, flag_bytes}
use Rattle.rules.specs.Forms.{Line, package_line, type_line, member_line}

-- ---- one line

abbrev pub type_bytes : TypeKey → Bytes
type_bytes t = decimal t.0

-- "pkg is a number or `-` for none."
abbrev pub package_bytes : Option PackageKey → Bytes
package_bytes none = ascii "-"
package_bytes (some p) = decimal p.0

-- a tag, only where there is one
abbrev pub tag_fields : Bytes → List Bytes
tag_fields [] = []
tag_fields (b ∷ s) = (b ∷ s) ∷ []

-- the fields behind `T`
abbrev pub kind_fields : Kind → List Bytes
kind_fields (Basic k) = ascii "basic" ∷ decimal k ∷ []
kind_fields (Array n e) = ascii "array" ∷ decimal n ∷ type_bytes e ∷ []
kind_fields (Slice e) = ascii "slice" ∷ type_bytes e ∷ []
kind_fields (Pointer e) = ascii "pointer" ∷ type_bytes e ∷ []
kind_fields (Map k e) = ascii "map" ∷ type_bytes k ∷ type_bytes e ∷ []
kind_fields (Chan d e) = ascii "chan" ∷ decimal (dir_number d) ∷ type_bytes e ∷ []
kind_fields (Tuple es) = ascii "tuple" ∷ map type_bytes es
kind_fields (Func v p r) = ascii "func" ∷ flag_bytes v ∷ type_bytes p ∷ type_bytes r ∷ []
kind_fields (Struct ms) = ascii "struct" ∷ []
kind_fields (Iface ms) = ascii "iface" ∷ []
kind_fields (Named u ms) = ascii "named" ∷ type_bytes u ∷ []

-- its letter, and the fields behind it
abbrev pub letter_of : Line → Bytes
letter_of (package_line path) = ascii "P"
letter_of (type_line k) = ascii "T"
letter_of (member_line name pkg type (Field emb tag)) = ascii "F"
letter_of (member_line name pkg type (Method ptr)) = ascii "M"

abbrev pub behind_letter : Line → List Bytes
behind_letter (package_line path) = path ∷ []
behind_letter (type_line k) = kind_fields k
behind_letter (member_line name pkg type (Field emb tag)) = name ∷ package_bytes pkg ∷ type_bytes type ∷ flag_bytes emb ∷ tag_fields tag
behind_letter (member_line name pkg type (Method ptr)) = name ∷ package_bytes pkg ∷ type_bytes type ∷ flag_bytes ptr ∷ []

-- a line without its newline: "Fields are parted by one tab"
unfoldable pub line_body : Line → Bytes
line_body l = letter_of l ++ tabbed (behind_letter l)

-- ---- the lines of a table

-- a kind with these members under its T line, and no others
abbrev pub holding : List Member → Kind → Kind
holding ms (Basic k) = Basic k
holding ms (Array n e) = Array n e
holding ms (Slice e) = Slice e
holding ms (Pointer e) = Pointer e
holding ms (Map k e) = Map k e
holding ms (Chan d e) = Chan d e
holding ms (Tuple es) = Tuple es
holding ms (Func v p r) = Func v p r
holding ms (Struct old) = Struct ms
holding ms (Iface old) = Iface ms
holding ms (Named u old) = Named u ms

-- a T line says the kind alone; the members have lines of their own
abbrev pub line_of_type : Kind → Line
line_of_type k = type_line (holding [] k)

abbrev pub line_of_member : Member → Line
line_of_member m = member_line m.name m.pkg m.type m.entity

-- the T line of a type, and its F or M lines
abbrev pub lines_of_kind : Kind → List Line
lines_of_kind k = line_of_type k ∷ map line_of_member (members_of k)

-- the P lines, then each type with its members
unfoldable pub lines_of : Table → List Line
lines_of T = map package_line T.packages ++ flat lines_of_kind T.types

-- ---- the text

-- each line with its newline
abbrev pub ended : List Bytes → Bytes
ended ls = flat (λ l. l ++ (10 ∷ [])) ls

abbrev pub header : Bytes
header = ascii "typetable\t1"

-- the text that has these lines
abbrev pub text_from : List Line → Bytes
text_from ls = ended (header ∷ map line_body ls)

unfoldable pub text_of : Table → Bytes
text_of T = text_from (lines_of T)
