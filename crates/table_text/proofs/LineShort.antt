-- The lines that can be written are just those that can be read: what `line_of` reads is `Sayable`.
use mathlib.Core.Path.{◌≡◌}
use mathlib.Core.List.{List, [], ◌∷◌, map}
use mathlib.Core.Logic.{inl, inr}
use mathlib.Core.Option.{Option, none, some}
use Prim.Native.Nat.{ℕ, ◌≤◌}
use Rattle.objects.specs.Bounds.{max_reference, max_basic, max_array}
use Rattle.objects.specs.Lists.{Bytes, In, mapped, when}
use Rattle.objects.specs.declared.TypeKey.{TypeKey}
use Rattle.objects.specs.Table.{Field, Method, Basic, Array, Slice, Pointer, Map, Chan, Tuple, Func, Struct, Iface, Named, refs}
use Rattle.objects.proofs.ListLaws.{cases}
use Rattle.text.specs.Bytes.{is_path, number}
use Rattle.text.specs.Readers.{◌>>=◌, field, others, is_word}
use Rattle.text.proofs.Gives.{Holds, First, Gives, holds-some, field-gives, done-gives, none-gives, cond-gives, whole-gives, bind-gives, then-gives, number-max}
use Rattle.rules.specs.Forms.{Line, package_line, type_line, member_line, type_ref, package_ref, flag_bit, direction, field_name, method_name, tag, kind_form, line_form, line_of}
use Rattle.rules.proofs.FormLaws.{line-formed}
use Rattle.table_text.specs.Shaped.{package_number, numbers_of, Sayable}

-- none of the numbers has more than four digits
abbrev Short : List ℕ → Type 0
Short ns = (n : ℕ) → In n ns → n ≤ max_reference

short_none : Short []
short_none n i = absurd i

short-next : (n : ℕ) (ns : List ℕ) → n ≤ max_reference → Short ns → Short (n ∷ ns)
short-next n ns h k m (inl e) = rw e h
short-next n ns h k m (inr i) = k m i

-- ---- single fields

type-short : (b : Bytes) → Holds (λ (t : TypeKey). t.0 ≤ max_reference) (type_ref b)
type-short b = go (number max_reference b) (number-max max_reference b)
  where
    go : (o : Option ℕ) → Holds (λ n. n ≤ max_reference) o → Holds (λ (t : TypeKey). t.0 ≤ max_reference) (mapped (λ n. record { 0 = n }) o)
    go none h = tt
    go (some n) h = h

package-short : (b : Bytes) → Holds (λ p. Short (package_number p)) (package_ref b)
package-short b = cases (is_word "-" b) (λ e. rw e short_none) (λ e. rw e (go (number max_reference b) (number-max max_reference b)))
  where
    go : (o : Option ℕ) → Holds (λ n. n ≤ max_reference) o → Holds (λ p. Short (package_number p)) (mapped (λ n. some (record { 0 = n })) o)
    go none h = tt
    go (some n) h = short-next n [] h short_none

others-short : Gives (λ (es : List TypeKey). Short (map (λ e. e.0) es)) (others type_ref)
others-short = record { given = λ fs. of fs }
  where
    of : (fs : List Bytes) → Holds (First (λ (es : List TypeKey). Short (map (λ e. e.0) es))) (others type_ref fs)
    of [] = short_none
    of (b ∷ fs) = go (type_ref b) (type-short b) (others type_ref fs) (of fs)
      where
        go : (o : Option TypeKey) → Holds (λ t. t.0 ≤ max_reference) o → (r : Option (List TypeKey × List Bytes)) → Holds (First (λ (es : List TypeKey). Short (map (λ e. e.0) es))) r
            → Holds (First (λ (es : List TypeKey). Short (map (λ e. e.0) es))) (elim o [ none ↦ none | some a ↦ mapped (λ p. (a ∷ p.0, p.1)) r ])
        go none z r y = tt
        go (some a) z none y = tt
        go (some a) z (some p) y = short-next a.0 (map (λ e. e.0) p.0) z y

-- ---- lines

-- one type number, and two
one : (e : TypeKey) → e.0 ≤ max_reference → Short (e.0 ∷ [])
one e h = short-next e.0 [] h short_none

two : (d e : TypeKey) → d.0 ≤ max_reference → e.0 ≤ max_reference → Short (d.0 ∷ e.0 ∷ [])
two d e h k = short-next d.0 (e.0 ∷ []) h (one e k)

kind-short : (w : Bytes) → Gives (λ k. Short (map (λ e. e.0) (refs k))) (kind_form w)
unfolding kind_form
kind-short w =
    cond-gives (is_word "basic" w) (then-gives (field (number max_basic)) (λ k. done-gives (Basic k) short_none))
    (cond-gives (is_word "array" w) (then-gives (field (number max_array)) (λ n. bind-gives (field-gives type_ref type-short) (λ e h. done-gives (Array n e) (one e h))))
    (cond-gives (is_word "slice" w) (bind-gives (field-gives type_ref type-short) (λ e h. done-gives (Slice e) (one e h)))
    (cond-gives (is_word "pointer" w) (bind-gives (field-gives type_ref type-short) (λ e h. done-gives (Pointer e) (one e h)))
    (cond-gives (is_word "map" w) (bind-gives (field-gives type_ref type-short) (λ k h. bind-gives (field-gives type_ref type-short) (λ e i. done-gives (Map k e) (two k e h i))))
    (cond-gives (is_word "chan" w) (then-gives (field direction) (λ d. bind-gives (field-gives type_ref type-short) (λ e h. done-gives (Chan d e) (one e h))))
    (cond-gives (is_word "tuple" w) (bind-gives others-short (λ es h. done-gives (Tuple es) h))
    (cond-gives (is_word "func" w)
    (then-gives (field flag_bit)
    (λ v. bind-gives (field-gives type_ref type-short) (λ p h. bind-gives (field-gives type_ref type-short) (λ r i. done-gives (Func v p r) (two p r h i)))))
    (cond-gives (is_word "struct" w) (done-gives (Struct []) short_none)
    (cond-gives (is_word "iface" w) (done-gives (Iface []) short_none)
    (cond-gives (is_word "named" w) (bind-gives (field-gives type_ref type-short) (λ u h. done-gives (Named u []) (one u h)))
    none-gives))))))))))

line-form-short : (l : Bytes) → Gives (λ x. Short (numbers_of x)) (line_form l)
unfolding line_form
line-form-short l =
    cond-gives (is_word "P" l) (then-gives (field (λ b. when (is_path b) b)) (λ p. done-gives (package_line p) short_none))
    (cond-gives (is_word "T" l) (then-gives (field some) (λ w. bind-gives (kind-short w) (λ k h. done-gives (type_line k) h)))
    (cond-gives (is_word "F" l)
    (then-gives (field field_name) (λ n. bind-gives (field-gives package_ref package-short) (λ p h. bind-gives (field-gives type_ref type-short) (λ t i. then-gives (field flag_bit) (λ emb.
    then-gives tag (λ x. done-gives (member_line n p t (Field emb x)) (short-next t.0 (package_number p) i h)))))))
    (cond-gives (is_word "M" l)
    (then-gives (field method_name) (λ n. bind-gives (field-gives package_ref package-short) (λ p h. bind-gives (field-gives type_ref type-short) (λ t i. then-gives (field flag_bit) (λ ptr.
    done-gives (member_line n p t (Method ptr)) (short-next t.0 (package_number p) i h))))))
    none-gives)))

-- WHAT IS READ CAN BE WRITTEN
pub line-sayable : (fs : List Bytes) (l : Line) → line_of fs ≡ some l → Sayable l
unfolding line_of
line-sayable fs l e = record {
  formed = line-formed fs l e;
  short = holds-some (λ x. Short (numbers_of x)) (line_of fs) l e (whole-gives (λ x. Short (numbers_of x)) (field some >>= line_form) (then-gives (field some) line-form-short) fs);
}
