-- The questions, and refusal 11.
use Rattle.std.specs.Prelude.{Bool, true, cond, ◌&&◌, leb, length}
use Rattle.std.proofs.Math.Option.{Option, none, some}
use Rattle.objects.specs.Bounds.{max_question}
use Rattle.objects.specs.Lists.{Bytes, when}
use Rattle.text.specs.Lines.{fields}
use Rattle.objects.specs.declared.TypeKey.{TypeKey}
use Rattle.objects.specs.declared.PackageKey.{PackageKey}
use Rattle.objects.specs.Table.{Table, has_type, has_package}
use Rattle.text.specs.Readers.{Reader, ◌>>=◌, field, done, whole, is_word}
use Rattle.rules.specs.Forms.{type_ref, package_ref, flag_bit, field_name}

pub data Question : Type 0 where
  ask_s : (t : TypeKey) (a : Bool) (pkg : Option PackageKey) (name : Bytes) → Question
  ask_m ask_c : (t : TypeKey) → Question
  ask_n : (t i : TypeKey) (s : Bool) → Question
  ask_i : (x y : TypeKey) → Question
  ask_v : Question

-- what stands behind the letter
unfoldable pub question_form : Bytes → Reader Question
question_form l =
    cond (is_word "S" l) (do t ← field type_ref; a ← field flag_bit; pkg ← field package_ref; name ← field field_name; done (ask_s t a pkg name))
    (cond (is_word "M" l) (do t ← field type_ref; done (ask_m t))
    (cond (is_word "N" l) (do t ← field type_ref; i ← field type_ref; s ← field flag_bit; done (ask_n t i s))
    (cond (is_word "I" l) (do x ← field type_ref; y ← field type_ref; done (ask_i x y))
    (cond (is_word "C" l) (do t ← field type_ref; done (ask_c t))
    (cond (is_word "V" l) (done ask_v)
    (λ fs. none))))))

-- the numbers are the table's
abbrev pub in_table : Table → Question → Bool
in_table T (ask_s t a pkg name) = has_type T t && has_package T pkg
in_table T (ask_m t) = has_type T t
in_table T (ask_c t) = has_type T t
in_table T (ask_n t i s) = has_type T t && has_type T i
in_table T (ask_i x y) = has_type T x && has_type T y
in_table T ask_v = true

abbrev pub known : Table → Option Question → Option Question
known T none = none
known T (some q) = when (in_table T q) q

-- none for 11: "The question has a wrong form, more than 256 bytes, or a number that the table lacks."
unfoldable pub question_of : Table → Bytes → Option Question
question_of T line = cond (leb (length line) max_question) (known T (whole (do l ← field some; question_form l) (fields line))) none
