-- What the form of a line says of its values (4): numbers in their range, names, paths and tags as they are allowed.
use mathlib.Core.Path.{◌≡◌, refl}
use mathlib.Core.Bool.{true, false, not, ◌&&◌}
use mathlib.Core.List.{List, [], ◌∷◌}
use mathlib.Core.Logic.{◌⊎◌, inl, inr}
use mathlib.Core.Option.{Option, none, some}
use Prim.Native.Nat.{ℕ, ◌≤◌}
use borrow.Author.Tests.{not-true}
use Rattle.objects.specs.declared.PackageKey.{PackageKey}
use Rattle.objects.specs.Bounds.{max_reference, max_basic, max_array}
use Rattle.objects.specs.Lists.{Bytes, when, mapped}
use Rattle.objects.specs.Table.{is_method, tag_of, Entity, Field, Method, Kind, Basic, Array, Slice, Pointer, Map, Chan, Tuple, Func, Struct, Iface, Named, members_of, package_key, Numbered}
use Rattle.objects.proofs.ListLaws.{cases, clash, and_l, and_r}
use Rattle.text.specs.Bytes.{is_name, is_blank, is_path, is_tag, number}
use Rattle.text.specs.Readers.{◌>>=◌, field, others, is_word}
use Rattle.text.proofs.Gives.{Holds, First, Gives, when-holds, holds-some, field-gives, done-gives, none-gives, cond-gives, whole-gives, bind-gives, then-gives, number-max}
use Rattle.rules.specs.Forms.{Line, package_line, type_line, member_line, type_ref, package_ref, flag_bit, direction, field_name, method_name, tag, kind_form, line_form, line_of}

-- the numbers of a T line that are no references
abbrev pub InRange : Kind → Type 0
InRange (Basic k) = k ≤ max_basic
InRange (Array n e) = n ≤ max_array
InRange (Slice e) = Unit {0}
InRange (Pointer e) = Unit {0}
InRange (Map k e) = Unit {0}
InRange (Chan d e) = Unit {0}
InRange (Tuple es) = Unit {0}
InRange (Func v p r) = Unit {0}
InRange (Struct ms) = Unit {0}
InRange (Iface ms) = Unit {0}
InRange (Named u ms) = Unit {0}

-- no bytes, or those of a tag
abbrev pub TagOrNone : Bytes → Type 0
TagOrNone t = (t ≡ []) ⊎ (is_tag t ≡ true)

-- the name, the package and the tag of an F or M line
pub record Says (name : Bytes) (pkg : Option PackageKey) (e : Entity) : Type 0 where
  pub named : is_name name ≡ true
  pub numbered : Numbered pkg
  pub not_blank : is_method e ≡ true → is_blank name ≡ false
  pub tagged : TagOrNone (tag_of e)

-- a T line's kind, with no members yet
abbrev pub Fresh : Kind → Type 0
Fresh k = InRange k × (members_of k ≡ [])

abbrev pub Formed : Line → Type 0
Formed (package_line path) = is_path path ≡ true
Formed (type_line k) = Fresh k
Formed (member_line name pkg type e) = Says name pkg e

kind-form : (w : Bytes) → Gives Fresh (kind_form w)
unfolding kind_form
kind-form w =
    cond-gives (is_word "basic" w) (bind-gives (field-gives (number max_basic) (number-max max_basic)) (λ k h. done-gives (Basic k) (h, refl)))
    (cond-gives (is_word "array" w) (bind-gives (field-gives (number max_array) (number-max max_array)) (λ n h. then-gives (field type_ref) (λ e. done-gives (Array n e) (h, refl))))
    (cond-gives (is_word "slice" w) (then-gives (field type_ref) (λ e. done-gives (Slice e) (tt, refl)))
    (cond-gives (is_word "pointer" w) (then-gives (field type_ref) (λ e. done-gives (Pointer e) (tt, refl)))
    (cond-gives (is_word "map" w) (then-gives (field type_ref) (λ k. then-gives (field type_ref) (λ e. done-gives (Map k e) (tt, refl))))
    (cond-gives (is_word "chan" w) (then-gives (field direction) (λ d. then-gives (field type_ref) (λ e. done-gives (Chan d e) (tt, refl))))
    (cond-gives (is_word "tuple" w) (then-gives (others type_ref) (λ es. done-gives (Tuple es) (tt, refl)))
    (cond-gives (is_word "func" w) (then-gives (field flag_bit) (λ v. then-gives (field type_ref) (λ p. then-gives (field type_ref) (λ r. done-gives (Func v p r) (tt, refl)))))
    (cond-gives (is_word "struct" w) (done-gives (Struct []) (tt, refl))
    (cond-gives (is_word "iface" w) (done-gives (Iface []) (tt, refl))
    (cond-gives (is_word "named" w) (then-gives (field type_ref) (λ u. done-gives (Named u []) (tt, refl)))
    none-gives))))))))))

tag-form : Gives TagOrNone tag
tag-form = record { given = λ fs. of fs }
  where
    of : (fs : List Bytes) → Holds (First TagOrNone) (tag fs)
    of [] = inl refl
    of (b ∷ fs) = when-holds (First TagOrNone) (is_tag b) (b, fs) (λ e. inr e)

package-numbered : (b : Bytes) → Holds Numbered (package_ref b)
package-numbered b = cases (is_word "-" b) (λ e. rw e tt) (λ e. rw e (go (number max_reference b) (number-max max_reference b)))
  where
    go : (o : Option ℕ) → Holds (λ n. n ≤ max_reference) o → Holds Numbered (mapped (λ n. some (package_key n)) o)
    go none h = tt
    go (some n) h = h

line-form : (l : Bytes) → Gives Formed (line_form l)
unfolding line_form
line-form l =
    cond-gives (is_word "P" l) (bind-gives (field-gives (λ b. when (is_path b) b) path) (λ p h. done-gives (package_line p) h))
    (cond-gives (is_word "T" l) (then-gives (field some) (λ w. bind-gives (kind-form w) (λ k h. done-gives (type_line k) h)))
    (cond-gives (is_word "F" l)
    (bind-gives (field-gives field_name name) (λ n h. bind-gives (field-gives package_ref package-numbered) (λ pkg p. then-gives (field type_ref) (λ type. then-gives (field flag_bit) (λ emb.
    bind-gives tag-form (λ t k. done-gives (member_line n pkg type (Field emb t)) (record { named = h; numbered = p; not_blank = λ e. clash e refl; tagged = k })))))))
    (cond-gives (is_word "M" l)
    (bind-gives (field-gives method_name method) (λ n h. bind-gives (field-gives package_ref package-numbered) (λ pkg p. then-gives (field type_ref) (λ sig. then-gives (field flag_bit) (λ ptr.
    done-gives (member_line n pkg sig (Method ptr)) (record { named = h.0; numbered = p; not_blank = λ e. h.1; tagged = inl refl }))))))
    none-gives)))
  where
    path : (b : Bytes) → Holds (λ p. is_path p ≡ true) (when (is_path b) b)
    path b = when-holds (λ p. is_path p ≡ true) (is_path b) b (λ e. e)

    name : (b : Bytes) → Holds (λ n. is_name n ≡ true) (field_name b)
    name b = when-holds (λ n. is_name n ≡ true) (is_name b) b (λ e. e)

    method : (b : Bytes) → Holds (λ n. (is_name n ≡ true) × (is_blank n ≡ false)) (method_name b)
    method b = when-holds (λ n. (is_name n ≡ true) × (is_blank n ≡ false)) (is_name b && not (is_blank b)) b
        (λ e. (and_l (is_name b) (not (is_blank b)) e, not-true (is_blank b) (and_r (is_name b) (not (is_blank b)) e)))

-- A line of right form has values that are allowed.
pub line-formed : (fs : List Bytes) (l : Line) → line_of fs ≡ some l → Formed l
unfolding line_of
line-formed fs l e = holds-some Formed (line_of fs) l e (whole-gives Formed (field some >>= line_form) (then-gives (field some) line-form) fs)
