-- The lines of a table (rules, specs/Forms.antt) as the code reads them: numbers of rows in place of keys and kinds, the letters and the kinds' words tried
-- in turn. proofs/StepLaws.antt shows that they are the forms of the rules.
use Rattle.std.specs.Prelude.{Bool, true, false, cond, List, [], ◌∷◌, ℕ, ◌+◌}
use Rattle.std.proofs.Math.Option.{Option, none, some}
use Rattle.objects.specs.declared.TypeKey.{TypeKey}
use Rattle.objects.specs.declared.PackageKey.{PackageKey}
use Rattle.objects.specs.Bounds.{max_reference, max_basic, max_array}
use Rattle.objects.specs.Lists.{Bytes, when, mapped}
use Rattle.objects.specs.Table.{Kind, Tuple, type_key}
use Rattle.objects.specs.Rows.{kind_of, entity_of}
use Rattle.text.specs.Bytes.{ascii, same_bytes, is_path, number}
use Rattle.text.specs.Readers.{field, done}
use Rattle.rules.specs.Forms.{Line, package_line, type_line, member_line, type_ref, package_ref, field_name, method_name, tag}

-- ---- steps

-- what one reader gave, handed on with the fields that are left
unfoldable pub next : {A B : Type 0} → Option (A × List Bytes) → (A → List Bytes → Option B) → Option B
next none f = none
next (some p) f = f p.0 p.1

-- the value, if no field is left
unfoldable pub ended : {A : Type 0} → A → List Bytes → Option (A × List Bytes)
ended a fs = done a fs

-- what stands behind the word w, if it is the next field; else another
unfoldable pub tried : {A : Type 0} → Bytes → List Bytes → (List Bytes → A) → A → A
tried w [] on off = off
tried w (b ∷ fs) on off = cond (same_bytes b w) (on fs) off

unfoldable pub numbered : ℕ → List Bytes → Option (ℕ × List Bytes)
numbered max fs = field (number max) fs

unfoldable pub packaged : List Bytes → Option (Option PackageKey × List Bytes)
packaged fs = field package_ref fs

unfoldable pub pathed : List Bytes → Option (Bytes × List Bytes)
pathed fs = field (λ b. when (is_path b) b) fs

unfoldable pub named : List Bytes → Option (Bytes × List Bytes)
named fs = field field_name fs

unfoldable pub method_named : List Bytes → Option (Bytes × List Bytes)
method_named fs = field method_name fs

unfoldable pub tagged : List Bytes → Option (Bytes × List Bytes)
tagged fs = tag fs

-- ---- T lines

-- a kind by its number and those of its T line, with no members and no elements
abbrev pub bare_kind : ℕ → ℕ → ℕ → ℕ → Kind
bare_kind kind a b c = kind_of [] [] kind a b c 0 0

-- no number behind the kind's word, one, two, or func's three
unfoldable pub none_rest : ℕ → List Bytes → Option (Line × List Bytes)
none_rest kind fs = ended (type_line (bare_kind kind 0 0 0)) fs

unfoldable pub one_rest : ℕ → ℕ → List Bytes → Option (Line × List Bytes)
one_rest kind max fs =
    next (numbered max fs) λ a f1.
    ended (type_line (bare_kind kind a 0 0)) f1

unfoldable pub two_rest : ℕ → ℕ → List Bytes → Option (Line × List Bytes)
two_rest kind max fs =
    next (numbered max fs) λ a f1.
    next (numbered max_reference f1) λ b f2.
    ended (type_line (bare_kind kind a b 0)) f2

unfoldable pub func_rest : List Bytes → Option (Line × List Bytes)
func_rest fs =
    next (numbered 1 fs) λ v f1.
    next (numbered max_reference f1) λ p f2.
    next (numbered max_reference f2) λ r f3.
    ended (type_line (bare_kind 7 v p r)) f3

-- whether each field is a type's number
unfoldable pub all_read : List Bytes → Bool
all_read [] = true
all_read (b ∷ fs) = elim (type_ref b) [ none ↦ false | some e ↦ all_read fs ]

-- the types' numbers that the fields begin with
unfoldable pub elements_read : List Bytes → List TypeKey
elements_read [] = []
elements_read (b ∷ fs) = elim (type_ref b) [ none ↦ [] | some e ↦ e ∷ elements_read fs ]

-- a tuple's T line, if each field behind its word is a type's number
unfoldable pub tuple_of : List Bytes → Option Line
tuple_of fs = when (all_read fs) (type_line (Tuple (elements_read fs)))

unfoldable pub tuple_rest : List Bytes → Option (Line × List Bytes)
tuple_rest fs = mapped (λ l. (l, [])) (tuple_of fs)

unfoldable pub last_kinds : List Bytes → Option (Line × List Bytes)
last_kinds fs =
    tried (ascii "struct") fs (none_rest 8)
    (tried (ascii "iface") fs (none_rest 9)
    (tried (ascii "named") fs (one_rest 10 max_reference)
    none))

unfoldable pub next_kinds : List Bytes → Option (Line × List Bytes)
next_kinds fs =
    tried (ascii "map") fs (two_rest 4 max_reference)
    (tried (ascii "chan") fs (two_rest 5 2)
    (tried (ascii "tuple") fs tuple_rest
    (tried (ascii "func") fs func_rest
    (last_kinds fs))))

unfoldable pub type_rest : List Bytes → Option (Line × List Bytes)
type_rest fs =
    tried (ascii "basic") fs (one_rest 0 max_basic)
    (tried (ascii "array") fs (two_rest 1 max_array)
    (tried (ascii "slice") fs (one_rest 2 max_reference)
    (tried (ascii "pointer") fs (one_rest 3 max_reference)
    (next_kinds fs))))

-- ---- P, F and M lines

unfoldable pub package_rest : List Bytes → Option (Line × List Bytes)
package_rest fs =
    next (pathed fs) λ path f1.
    ended (package_line path) f1

-- what F and M lines have alike behind the name: package, type, and the bit of an embedded field or of a pointer receiver
unfoldable pub typed_rest : List Bytes → Option ((Option PackageKey × TypeKey × ℕ) × List Bytes)
typed_rest fs =
    next (packaged fs) λ pkg f1.
    next (numbered max_reference f1) λ t f2.
    next (numbered 1 f2) λ bit f3.
    some ((pkg, type_key t, bit), f3)

unfoldable pub field_rest : List Bytes → Option (Line × List Bytes)
field_rest fs =
    next (named fs) λ name f1.
    next (typed_rest f1) λ h f2.
    next (tagged f2) λ tag f3.
    ended (member_line name h.0 h.1 (entity_of h.2 tag)) f3

unfoldable pub method_rest : List Bytes → Option (Line × List Bytes)
method_rest fs =
    next (method_named fs) λ name f1.
    next (typed_rest f1) λ h f2.
    ended (member_line name h.0 h.1 (entity_of (2 + h.2) [])) f2

unfoldable pub line_rest : List Bytes → Option (Line × List Bytes)
line_rest fs =
    tried (ascii "P") fs package_rest
    (tried (ascii "T") fs type_rest
    (tried (ascii "F") fs field_rest
    (tried (ascii "M") fs method_rest
    none)))
