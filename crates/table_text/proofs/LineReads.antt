-- The forms read back: a line whose values are in range is read as itself, and no newline stands in it.
use mathlib.Core.Path.{◌≡◌, refl, ap, ◌∙◌}
use mathlib.Core.Bool.{Bool, true, false, not, ◌&&◌}
use mathlib.Core.List.{List, [], ◌∷◌, map, cons≢nil}
use mathlib.Core.Logic.{inl, inr}
use mathlib.Core.Option.{Option, none, some}
use Prim.Native.Nat.{ℕ, ◌≤◌}
use native.Mathlib.Omega.{arith}
use lib.Dec.{eqb, leb}
use borrow.Author.Tests.{eqb-true, leb-true, le-leb}
use Rattle.objects.specs.Bounds.{max_reference, max_basic, max_array, max_name, max_path, max_tag}
use Rattle.objects.specs.Lists.{Bytes, every, In, mapped, when}
use Rattle.objects.specs.declared.TypeKey.{TypeKey}
use Rattle.objects.specs.declared.PackageKey.{PackageKey}
use Rattle.objects.specs.declared.Dir.{Dir}
use Rattle.objects.specs.Rows.{dir_at}
use Rattle.objects.specs.Table.{bit, dir_number, Field, Method, Kind, Basic, Array, Slice, Pointer, Map, Chan, Tuple, Func, Struct, Iface, Named}
use Rattle.objects.proofs.ListLaws.{cases, clash, and_l, and_r, any_append}
use Rattle.objects.proofs.BoolLaws.{every-from}
use Rattle.objects.proofs.PartLaws.{every-In}
use Rattle.text.specs.Bytes.{ascii, between, sized, is_digit, is_capital, is_name_byte, first_is, is_name, is_blank, is_path, is_tag, number, decimal}
use Rattle.text.specs.Lines.{fields}
use Rattle.text.specs.Readers.{Reader, ◌>>=◌, field, others, done, is_word}
use Rattle.text.proofs.ByteLaws.{same_true}
use Rattle.text.proofs.LineLaws.{Free}
use Rattle.text.proofs.RunLaws.{every-free}
use Rattle.print.proofs.DecimalLaws.{digits-digits, decimal-number}
use Rattle.rules.specs.Answer.{tabbed, flag_bytes}
use Rattle.rules.specs.Forms.{Line, package_line, type_line, member_line, type_ref, package_ref, flag_bit, direction, field_name, method_name, tag, kind_form, line_form, line_of}
use Rattle.rules.proofs.FormLaws.{TagOrNone}
use Rattle.edits.specs.TableText.{type_bytes, package_bytes, tag_fields, kind_fields, letter_of, behind_letter, line_body}
use Rattle.table_text.specs.Shaped.{Sayable, package_number}
use Rattle.table_text.proofs.JoinLaws.{split-tabs}

-- ---- every field is of bytes from 32 to 126, so that neither a tab nor a newline stands in it

abbrev plain : Bytes → Bool
plain s = every (between 32 126) s

every-weaker : {A : Type 0} (p q : A → Bool) (l : List A) → ((x : A) → p x ≡ true → q x ≡ true) → every p l ≡ true → every q l ≡ true
every-weaker p q l h k = every-from q l (λ x i. h x (every-In p l x k i))

between-wider : (low high b : ℕ) → 32 ≤ low → high ≤ 126 → between low high b ≡ true → between 32 126 b ≡ true
between-wider low high b l h k =
    let m = leb-true low b (and_l (leb low b) (leb b high) k) in
    let n = leb-true b high (and_r (leb low b) (leb b high) k) in
    rw (le-leb 32 b (omega arith), le-leb b 126 (omega arith))

name-byte : (b : ℕ) → is_name_byte b ≡ true → between 32 126 b ≡ true
name-byte b h =
    cases (is_capital b)
    (λ e. between-wider 65 90 b (omega arith) (omega arith) e)
    (λ e. cases (between 97 122 b)
    (λ f. between-wider 97 122 b (omega arith) (omega arith) f)
    (λ f. cases (is_digit b)
    (λ g. between-wider 48 57 b (omega arith) (omega arith) g)
    (λ g. rw (eqb-true b 95 (rw (e, f, g) at h)))))

name-plain : (s : Bytes) → is_name s ≡ true → plain s ≡ true
unfolding is_name
name-plain s h = every-weaker is_name_byte (between 32 126) s name-byte (and_r (sized max_name s && not (first_is is_digit s)) (every is_name_byte s) h)

path-plain : (s : Bytes) → is_path s ≡ true → plain s ≡ true
unfolding is_path
path-plain s h =
    every-weaker (between 33 126) (between 32 126) s (λ b. between-wider 33 126 b (omega arith) (omega arith))
    (and_r (sized max_path s) (every (between 33 126) s) (and_l (sized max_path s && every (between 33 126) s) (not (is_blank s)) h))

tag-plain : (s : Bytes) → is_tag s ≡ true → plain s ≡ true
unfolding is_tag
tag-plain s h = and_r (sized max_tag s) (every (between 32 126) s) h

decimal-digits : (n : ℕ) → every is_digit (decimal n) ≡ true
unfolding decimal
decimal-digits n = digits-digits 20 n []

decimal-plain : (n : ℕ) → plain (decimal n) ≡ true
decimal-plain n = every-weaker is_digit (between 32 126) (decimal n) (λ b. between-wider 48 57 b (omega arith) (omega arith)) (decimal-digits n)

package-plain : (p : Option PackageKey) → plain (package_bytes p) ≡ true
package-plain none = refl
package-plain (some p) = decimal-plain p.0

tags-plain : (t : Bytes) → TagOrNone t → every plain (tag_fields t) ≡ true
tags-plain [] h = refl
tags-plain (b ∷ t) (inl e) = absurd (cons≢nil e)
tags-plain (b ∷ t) (inr e) = rw (tag-plain (b ∷ t) e)

tuple_plain : (es : List TypeKey) → every plain (map type_bytes es) ≡ true
tuple_plain [] = refl
tuple_plain (e ∷ es) = rw (decimal-plain e.0) (tuple_plain es)

kind-plain : (k : Kind) → every plain (kind_fields k) ≡ true
kind-plain (Basic k) = rw (decimal-plain k)
kind-plain (Array n e) = rw (decimal-plain n, decimal-plain e.0)
kind-plain (Slice e) = rw (decimal-plain e.0)
kind-plain (Pointer e) = rw (decimal-plain e.0)
kind-plain (Map k e) = rw (decimal-plain k.0, decimal-plain e.0)
kind-plain (Chan d e) = rw (decimal-plain (dir_number d), decimal-plain e.0)
kind-plain (Tuple es) = tuple_plain es
kind-plain (Func v p r) = rw (decimal-plain (bit v), decimal-plain p.0, decimal-plain r.0)
kind-plain (Struct ms) = refl
kind-plain (Iface ms) = refl
kind-plain (Named u ms) = rw (decimal-plain u.0)

line_plain : (l : Line) → Sayable l → every plain (letter_of l ∷ behind_letter l) ≡ true
line_plain (package_line path) s = rw (path-plain path s.formed)
line_plain (type_line k) s = kind-plain k
line_plain (member_line name pkg type (Field emb tag)) s =
    rw (name-plain name s.formed.named, package-plain pkg, decimal-plain type.0, decimal-plain (bit emb)) (tags-plain tag s.formed.tagged)
line_plain (member_line name pkg type (Method ptr)) s =
    rw (name-plain name s.formed.named, package-plain pkg, decimal-plain type.0, decimal-plain (bit ptr))

tab-free : (s : Bytes) → plain s ≡ true → Free 9 s
tab-free s h = every-free 9 (between 32 126) refl s h

newline-free : (s : Bytes) → plain s ≡ true → Free 10 s
newline-free s h = every-free 10 (between 32 126) refl s h

-- ---- the line as fields, and the text as lines

module _ (l : Line) (s : Sayable l) where
  field_plain : (f : Bytes) → In f (letter_of l ∷ behind_letter l) → plain f ≡ true
  field_plain f i = every-In plain (letter_of l ∷ behind_letter l) f (line_plain l s) i

  body-fields : fields (line_body l) ≡ letter_of l ∷ behind_letter l
  unfolding fields line_body
  body-fields =
      split-tabs (letter_of l) (behind_letter l) (tab-free (letter_of l) (field_plain (letter_of l) (inl refl)))
      (λ f i. tab-free f (field_plain f (inr i)))

  tabs-free : (fs : List Bytes) → ((f : Bytes) → In f fs → plain f ≡ true) → Free 10 (tabbed fs)
  tabs-free [] h = refl
  tabs-free (f ∷ fs) h = rw (any_append (λ b. eqb b 10) f (tabbed fs), newline-free f (h f (inl refl))) (tabs-free fs (λ g i. h g (inr i)))

  pub body-free : Free 10 (line_body l)
  unfolding line_body
  body-free =
      rw (any_append (λ b. eqb b 10) (letter_of l) (tabbed (behind_letter l)), newline-free (letter_of l) (field_plain (letter_of l) (inl refl)))
      (tabs-free (behind_letter l) (λ f i. field_plain f (inr i)))

-- ---- the values of single fields

digits-no-dash : (n : ℕ) → is_word "-" (decimal n) ≡ false
digits-no-dash n = cases (is_word "-" (decimal n)) (λ e. clash (decimal-digits n) (ap (every is_digit) (same_true (decimal n) (ascii "-") e))) (λ e. e)

type_reads : (t : TypeKey) → t.0 ≤ max_reference → type_ref (type_bytes t) ≡ some t
type_reads t h = rw (decimal-number max_reference t.0 h (omega arith))

package-reads : (p : Option PackageKey) → ((n : ℕ) → In n (package_number p) → n ≤ max_reference) → package_ref (package_bytes p) ≡ some p
package-reads none h = refl
package-reads (some p) h = let k = h p.0 (inl refl) in rw (digits-no-dash p.0, decimal-number max_reference p.0 k (omega arith))

flag-reads : (v : Bool) → flag_bit (flag_bytes v) ≡ some v
flag-reads true = rw (decimal-number 1 1 (omega arith) (omega arith))
flag-reads false = rw (decimal-number 1 0 (omega arith) (omega arith))

direction-reads : (d : Dir) → direction (decimal (dir_number d)) ≡ some d
unfolding dir_at
direction-reads Dir.Both = rw (decimal-number 2 0 (omega arith) (omega arith))
direction-reads Dir.Send = rw (decimal-number 2 1 (omega arith) (omega arith))
direction-reads Dir.Receive = rw (decimal-number 2 2 (omega arith) (omega arith))

tuple-reads : (es : List TypeKey) → ((n : ℕ) → In n (map (λ e. e.0) es) → n ≤ max_reference) → others type_ref (map type_bytes es) ≡ some (es, [])
tuple-reads [] h = refl
tuple-reads (e ∷ es) h =
    ap {A = Option TypeKey} (λ o. elim o [ none ↦ none | some a ↦ mapped (λ p. (a ∷ p.0, p.1)) (others type_ref (map type_bytes es)) ]) (type_reads e (h e.0 (inl refl)))
    ∙ ap (mapped (λ p. (e ∷ p.0, p.1))) (tuple-reads es (λ n i. h n (inr i)))

-- ---- reading on behind what was read

module _ {A B : Type 0} where
  bind-reads : (r : Reader A) (g : A → Reader B) (fs : List Bytes) {a : A} {rest : List Bytes} → r fs ≡ some (a, rest) → (r >>= g) fs ≡ g a rest
  bind-reads r g fs e = ap {A = Option (A × List Bytes)} (λ o. elim o [ none ↦ none | some p ↦ g p.0 p.1 ]) e

  field-reads : (f : Bytes → Option A) (g : A → Reader B) (b : Bytes) (fs : List Bytes) {a : A} → f b ≡ some a → (field f >>= g) (b ∷ fs) ≡ g a fs
  field-reads f g b fs e = bind-reads (field f) g (b ∷ fs) (ap (mapped (λ x. (x, fs))) e)

-- ---- T lines

-- the reader of a kind reads its fields as the kind
abbrev KindReads : List Bytes → Kind → Type 0
KindReads [] k = ⊥
KindReads (w ∷ fs) k = kind_form w fs ≡ some (k, [])

kind-reads : (k : Kind) → Sayable (type_line k) → KindReads (kind_fields k) k
unfolding kind_form
kind-reads (Basic k) s = let h = s.formed.0 in field-reads (number max_basic) _ (decimal k) [] (decimal-number max_basic k h (omega arith))
kind-reads (Array n e) s =
    let h = s.formed.0 in
    field-reads (number max_array) _ (decimal n) (type_bytes e ∷ []) (decimal-number max_array n h (omega arith)) ∙ field-reads type_ref _ (type_bytes e) [] (type_reads e (s.short e.0 (inl refl)))
kind-reads (Slice e) s = field-reads type_ref _ (type_bytes e) [] (type_reads e (s.short e.0 (inl refl)))
kind-reads (Pointer e) s = field-reads type_ref _ (type_bytes e) [] (type_reads e (s.short e.0 (inl refl)))
kind-reads (Map k e) s =
    field-reads type_ref _ (type_bytes k) (type_bytes e ∷ []) (type_reads k (s.short k.0 (inl refl)))
    ∙ field-reads type_ref _ (type_bytes e) [] (type_reads e (s.short e.0 (inr (inl refl))))
kind-reads (Chan d e) s =
    field-reads direction _ (decimal (dir_number d)) (type_bytes e ∷ []) (direction-reads d) ∙ field-reads type_ref _ (type_bytes e) [] (type_reads e (s.short e.0 (inl refl)))
kind-reads (Tuple es) s = bind-reads (others type_ref) _ (map type_bytes es) (tuple-reads es s.short)
kind-reads (Func v p r) s =
    field-reads flag_bit _ (flag_bytes v) (type_bytes p ∷ type_bytes r ∷ []) (flag-reads v)
    ∙ field-reads type_ref _ (type_bytes p) (type_bytes r ∷ []) (type_reads p (s.short p.0 (inl refl)))
    ∙ field-reads type_ref _ (type_bytes r) [] (type_reads r (s.short r.0 (inr (inl refl))))
kind-reads (Struct ms) s = rw s.formed.1
kind-reads (Iface ms) s = rw s.formed.1
kind-reads (Named u ms) s = field-reads type_ref _ (type_bytes u) [] (type_reads u (s.short u.0 (inl refl))) ∙ rw s.formed.1

-- ---- all lines

type-line : (k : Kind) (fs : List Bytes) → KindReads fs k → line_of (ascii "T" ∷ fs) ≡ some (type_line k)
unfolding line_of line_form
type-line k [] h = absurd h
type-line k (w ∷ fs) h = ap (mapped (λ p. p.0)) (bind-reads (kind_form w) (λ x. done (type_line x)) fs h)

tag-reads : (t : Bytes) → TagOrNone t → tag (tag_fields t) ≡ some (t, [])
tag-reads [] h = refl
tag-reads (b ∷ t) (inl e) = absurd (cons≢nil e)
tag-reads (b ∷ t) (inr e) = rw e

fields_read : (l : Line) → Sayable l → line_of (letter_of l ∷ behind_letter l) ≡ some l
unfolding line_of line_form
fields_read (package_line path) s = ap (mapped (λ p. p.0)) (field-reads (λ b. when (is_path b) b) (λ p. done (package_line p)) path [] (rw s.formed))
fields_read (type_line k) s = type-line k (kind_fields k) (kind-reads k s)
fields_read (member_line name pkg type (Field emb t)) s =
    let f = s.formed in
    ap (mapped (λ p. p.0))
    (field-reads field_name _ name (package_bytes pkg ∷ type_bytes type ∷ flag_bytes emb ∷ tag_fields t) (rw f.named)
    ∙ field-reads package_ref _ (package_bytes pkg) (type_bytes type ∷ flag_bytes emb ∷ tag_fields t) (package-reads pkg (λ n i. s.short n (inr i)))
    ∙ field-reads type_ref _ (type_bytes type) (flag_bytes emb ∷ tag_fields t) (type_reads type (s.short type.0 (inl refl)))
    ∙ field-reads flag_bit _ (flag_bytes emb) (tag_fields t) (flag-reads emb)
    ∙ bind-reads tag (λ x. done (member_line name pkg type (Field emb x))) (tag_fields t) (tag-reads t f.tagged))
fields_read (member_line name pkg type (Method ptr)) s =
    let f = s.formed in
    ap (mapped (λ p. p.0))
    (field-reads method_name _ name (package_bytes pkg ∷ type_bytes type ∷ flag_bytes ptr ∷ []) (rw (f.named, f.not_blank refl))
    ∙ field-reads package_ref _ (package_bytes pkg) (type_bytes type ∷ flag_bytes ptr ∷ []) (package-reads pkg (λ n i. s.short n (inr i)))
    ∙ field-reads type_ref _ (type_bytes type) (flag_bytes ptr ∷ []) (type_reads type (s.short type.0 (inl refl)))
    ∙ field-reads flag_bit (λ x. done (member_line name pkg type (Method x))) (flag_bytes ptr) [] (flag-reads ptr))

-- EVERY LINE THAT CAN BE WRITTEN IS READ BACK AS ITSELF
pub line_reads : (l : Line) → Sayable l → line_of (fields (line_body l)) ≡ some l
line_reads l s = ap line_of (body-fields l s) ∙ fields_read l s
