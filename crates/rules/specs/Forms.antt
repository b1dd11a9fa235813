-- The forms of the lines of a table (4): the fields of each, from left to right. Questions read their numbers and names alike.
use Rattle.std.specs.Prelude.{Bool, cond, not, ◌&&◌, List, [], ◌∷◌, eqb}
use Rattle.std.proofs.Math.Option.{Option, none, some}
use Rattle.objects.specs.Bounds.{max_reference, max_basic, max_array}
use Rattle.objects.specs.Lists.{Bytes, when, mapped}
use Rattle.text.specs.Bytes.{is_name, is_blank, is_path, is_tag, number}
use Rattle.text.specs.Readers.{Reader, ◌>>=◌, field, others, done, whole, is_word}
use Rattle.objects.specs.declared.TypeKey.{TypeKey}
use Rattle.objects.specs.declared.PackageKey.{PackageKey}
use Rattle.objects.specs.declared.Dir.{Dir}
use Rattle.objects.specs.Rows.{dir_at}
use Rattle.objects.specs.Table.{type_key, package_key, Entity, Field, Method, Kind, Basic, Array, Slice, Pointer, Map, Chan, Tuple, Func, Struct, Iface, Named}

-- "A type or package number of more than four digits has a wrong form."
abbrev pub type_ref : Bytes → Option TypeKey
type_ref b = mapped type_key (number max_reference b)

-- "pkg is a number or `-` for none."
abbrev pub package_ref : Bytes → Option (Option PackageKey)
package_ref b = cond (is_word "-" b) (some none) (mapped (λ n. some (package_key n)) (number max_reference b))

abbrev pub flag_bit : Bytes → Option Bool
flag_bit b = mapped (λ n. eqb n 1) (number 1 b)

-- "0 both ways, 1 send only, 2 receive only"
abbrev pub direction : Bytes → Option Dir
direction b = mapped dir_at (number 2 b)

abbrev pub field_name : Bytes → Option Bytes
field_name b = when (is_name b) b

-- "a method is never `_`"
abbrev pub method_name : Bytes → Option Bytes
method_name b = when (is_name b && not (is_blank b)) b

-- "for a tagged field, a sixth field"
abbrev pub tag : Reader Bytes
tag [] = some ([], [])
tag (b ∷ fs) = when (is_tag b) (b, fs)

-- ---- the lines of a table

pub data Line : Type 0 where
  package_line : (path : Bytes) → Line
  type_line : Kind → Line
  member_line : (name : Bytes) (pkg : Option PackageKey) (type : TypeKey) → Entity → Line

-- what stands behind `T` and the kind's word
unfoldable pub kind_form : Bytes → Reader Kind
kind_form w =
    cond (is_word "basic" w) (do k ← field (number max_basic); done (Basic k))
    (cond (is_word "array" w) (do n ← field (number max_array); e ← field type_ref; done (Array n e))
    (cond (is_word "slice" w) (do e ← field type_ref; done (Slice e))
    (cond (is_word "pointer" w) (do e ← field type_ref; done (Pointer e))
    (cond (is_word "map" w) (do k ← field type_ref; e ← field type_ref; done (Map k e))
    (cond (is_word "chan" w) (do d ← field direction; e ← field type_ref; done (Chan d e))
    (cond (is_word "tuple" w) (do es ← others type_ref; done (Tuple es))
    (cond (is_word "func" w) (do v ← field flag_bit; p ← field type_ref; r ← field type_ref; done (Func v p r))
    (cond (is_word "struct" w) (done (Struct []))
    (cond (is_word "iface" w) (done (Iface []))
    (cond (is_word "named" w) (do u ← field type_ref; done (Named u []))
    (λ fs. none)))))))))))

-- what stands behind the letter
unfoldable pub line_form : Bytes → Reader Line
line_form l =
    cond (is_word "P" l) (do path ← field (λ b. when (is_path b) b); done (package_line path))
    (cond (is_word "T" l) (do w ← field some; k ← kind_form w; done (type_line k))
    (cond (is_word "F" l) (do name ← field field_name; pkg ← field package_ref; type ← field type_ref; emb ← field flag_bit; t ← tag; done (member_line name pkg type (Field emb t)))
    (cond (is_word "M" l) (do name ← field method_name; pkg ← field package_ref; sig ← field type_ref; ptr ← field flag_bit; done (member_line name pkg sig (Method ptr)))
    (λ fs. none))))

-- 4: "A line has a wrong form: letter, field count, value outside its range"
unfoldable pub line_of : List Bytes → Option Line
line_of fs = whole (do l ← field some; line_form l) fs
