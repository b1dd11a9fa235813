-- A line of right form is what is written of the values that it says: the fields of `line_of` come back.
use mathlib.Core.Path.{◌≡◌, refl, sym, ap, ap₂, ◌∙◌}
use mathlib.Core.Bool.{Bool, true, cond, not, ◌&&◌}
use mathlib.Core.List.{List, [], ◌∷◌, ◌++◌, map, append-nil}
use mathlib.Core.Option.{Option, none, some}
use Prim.Native.Nat.{ℕ, zero, suc, ◌^◌, ◌≤◌, ◌<◌}
use Prim.Native.String.{String}
use native.Mathlib.Omega.{arith}
use lib.Dec.{eqb}
use Rattle.objects.specs.Bounds.{max_reference, max_basic, max_array}
use Rattle.objects.specs.Lists.{Bytes, mapped, when}
use Rattle.objects.specs.declared.TypeKey.{TypeKey}
use Rattle.objects.specs.declared.PackageKey.{PackageKey}
use Rattle.objects.specs.Rows.{dir_at}
use Rattle.objects.specs.Table.{bit, dir_number, type_key, package_key, Field, Method, Basic, Array, Slice, Pointer, Map, Chan, Tuple, Func, Struct, Iface, Named}
use Rattle.objects.proofs.ListLaws.{cases, clash}
use Rattle.text.specs.Bytes.{ascii, is_name, is_blank, is_path, is_tag, number, decimal}
use Rattle.text.specs.Lines.{fields}
use Rattle.text.specs.Readers.{Reader, ◌>>=◌, field, others, done, whole, is_word}
use Rattle.text.proofs.ByteLaws.{same_true}
use Rattle.text.proofs.Gives.{Holds, First, when-holds, holds-some}
use Rattle.rules.specs.Answer.{flag_bytes}
use Rattle.rules.specs.Forms.{Line, package_line, type_line, member_line, type_ref, package_ref, flag_bit, direction, field_name, method_name, tag, kind_form, line_form, line_of}
use Rattle.edits.specs.TableText.{type_bytes, package_bytes, tag_fields, kind_fields, letter_of, behind_letter, line_body}
use Rattle.table_text.proofs.NumberBack.{number-back}
use Rattle.table_text.proofs.JoinLaws.{joined, join-split, joined-tabs}

-- ---- what a reader says of the fields that it was given

-- Q of the fields and of the value that they give, if they give one
record Back {A : Type 0} (Q : List Bytes → A → Type 0) (r : Reader A) : Type 0 where
  given : (fs : List Bytes) → Holds (First (Q fs)) (r fs)

module _ {A : Type 0} where
  done-holds : (P : A → Type 0) (a : A) (fs : List Bytes) → (fs ≡ [] → P a) → Holds (First P) (done a fs)
  done-holds P a [] h = h refl
  done-holds P a (b ∷ fs) h = tt

  done-back : {Q : List Bytes → A → Type 0} (a : A) → Q [] a → Back Q (done a)
  done-back {Q} a h = record { given = λ fs. done-holds (Q fs) a fs (λ e. rw e h) }

  none-back : {Q : List Bytes → A → Type 0} → Back Q (λ fs. none)
  none-back = record { given = λ fs. tt }

  -- the fixed word w, or another
  word_back : {Q : List Bytes → A → Type 0} (w : String) (b : Bytes) {r s : Reader A} → (ascii w ≡ b → Back Q r) → Back Q s → Back Q (cond (is_word w b) r s)
  word_back {Q} w b {r} {s} h k = cases (is_word w b) (λ e. rw e (h (sym (same_true b (ascii w) e)))) (λ e. rw e k)

-- P of the fields, and of the value with the fields that are left
record Takes {A : Type 0} (P : List Bytes → A × List Bytes → Type 0) (r : Reader A) : Type 0 where
  taken : (fs : List Bytes) → Holds (P fs) (r fs)

module _ {A B : Type 0} where
  -- the first reader takes some fields and leaves others; the second says Q of them all
  bind-back : {Q : List Bytes → B → Type 0} {P : List Bytes → A × List Bytes → Type 0} {r : Reader A} {f : A → Reader B} → Takes P r
      → ((a : A) (fs : List Bytes) → Back (λ rest b. P fs (a, rest) → Q fs b) (f a)) → Back Q (r >>= f)
  bind-back {Q} {P} {r} {f} h k = record { given = λ fs. go fs (r fs) (h.taken fs) }
    where
      use-it : (fs rest : List Bytes) (a : A) → P fs (a, rest) → (o : Option (B × List Bytes)) → Holds (First (λ b. P fs (a, rest) → Q fs b)) o → Holds (First (Q fs)) o
      use-it fs rest a z none y = tt
      use-it fs rest a z (some q) y = y z

      go : (fs : List Bytes) (o : Option (A × List Bytes)) → Holds (P fs) o → Holds (First (Q fs)) (elim o [ none ↦ none | some p ↦ f p.0 p.1 ])
      go fs none z = tt
      go fs (some p) z = use-it fs p.1 p.0 z (f p.0 p.1) ((k p.0 fs).given p.1)

  -- a field that is what w writes of its value
  field_back : {Q : List Bytes → B → Type 0} {g : A → Reader B} (f : Bytes → Option A) (w : A → Bytes) → ((b : Bytes) → Holds (λ a. w a ≡ b) (f b))
      → ((a : A) → Back (λ fs. Q (w a ∷ fs)) (g a)) → Back Q (field f >>= g)
  field_back {Q} {g} f w h k = record { given = λ fs. of fs }
    where
      next : (b : Bytes) (fs : List Bytes) (o : Option A) → Holds (λ a. w a ≡ b) o
          → Holds (First (Q (b ∷ fs))) (elim (mapped {B = A × List Bytes} (λ a. (a, fs)) o) [ none ↦ none | some p ↦ g p.0 p.1 ])
      next b fs none z = tt
      next b fs (some a) z = rw z at ((k a).given fs)

      of : (fs : List Bytes) → Holds (First (Q fs)) ((field f >>= g) fs)
      of [] = tt
      of (b ∷ fs) = next b fs (f b) (h b)

  mapped-holds : (P : A → Type 0) (R : B → Type 0) (f : A → B) (o : Option A) → ((a : A) → P a → R (f a)) → Holds P o → Holds R (mapped f o)
  mapped-holds P R f none h z = tt
  mapped-holds P R f (some a) h z = h a z

-- all the fields that are left
module _ {A : Type 0} (f : Bytes → Option A) (w : A → Bytes) (h : (b : Bytes) → Holds (λ a. w a ≡ b) (f b)) where
  abbrev AllOf : List Bytes → List A × List Bytes → Type 0
  AllOf fs p = map w p.0 ≡ fs

  others-holds : (fs : List Bytes) → Holds (AllOf fs) (others f fs)
  others-holds [] = refl
  others-holds (b ∷ fs) = go (f b) (h b) (others f fs) (others-holds fs)
    where
      go : (o : Option A) → Holds (λ a. w a ≡ b) o → (r : Option (List A × List Bytes)) → Holds (AllOf fs) r
          → Holds (AllOf (b ∷ fs)) (elim o [ none ↦ none | some a ↦ mapped (λ p. (a ∷ p.0, p.1)) r ])
      go none z r y = tt
      go (some a) z none y = tt
      go (some a) z (some p) y = ap₂ (λ x xs. x ∷ xs) z y

  others-is : Takes AllOf (others f)
  others-is = record { taken = others-holds }

-- ---- the values of single fields

number_is : (max : ℕ) → max < 2 ^ 32 → (b : Bytes) → Holds (λ n. decimal n ≡ b) (number max b)
number_is max m b = go (number max b) (number-back max m b)
  where
    go : (o : Option ℕ) → Holds (λ n. (decimal n ≡ b) × (n ≤ max)) o → Holds (λ n. decimal n ≡ b) o
    go none z = tt
    go (some n) z = z.0

type-is : (b : Bytes) → Holds (λ t. type_bytes t ≡ b) (type_ref b)
type-is b = mapped-holds (λ n. decimal n ≡ b) (λ t. type_bytes t ≡ b) type_key (number max_reference b) (λ n e. e) (number_is max_reference (omega arith) b)

package-is : (b : Bytes) → Holds (λ p. package_bytes p ≡ b) (package_ref b)
package-is b =
    cases (is_word "-" b)
    (λ e. rw e (sym (same_true b (ascii "-") e)))
    (λ e. rw e (mapped-holds (λ n. decimal n ≡ b) (λ p. package_bytes p ≡ b) (λ n. some (package_key n)) (number max_reference b) (λ n q. q) (number_is max_reference (omega arith) b)))

flag_is : (b : Bytes) → Holds (λ v. flag_bytes v ≡ b) (flag_bit b)
flag_is b = mapped-holds (λ n. (decimal n ≡ b) × (n ≤ 1)) (λ v. flag_bytes v ≡ b) (λ n. eqb n 1) (number 1 b) (λ n z. ap decimal (bit-of n z.1) ∙ z.0) (number-back 1 (omega arith) b)
  where
    bit-of : (n : ℕ) → n ≤ 1 → bit (eqb n 1) ≡ n
    bit-of zero h = refl
    bit-of (suc zero) h = refl
    bit-of (suc (suc n)) h = absurd (omega arith)

direction-is : (b : Bytes) → Holds (λ d. decimal (dir_number d) ≡ b) (direction b)
unfolding dir_at
direction-is b = mapped-holds (λ n. (decimal n ≡ b) × (n ≤ 2)) (λ d. decimal (dir_number d) ≡ b) dir_at (number 2 b) (λ n z. ap decimal (dir-of n z.1) ∙ z.0) (number-back 2 (omega arith) b)
  where
    dir-of : (n : ℕ) → n ≤ 2 → dir_number (dir_at n) ≡ n
    dir-of zero h = refl
    dir-of (suc zero) h = refl
    dir-of (suc (suc zero)) h = refl
    dir-of (suc (suc (suc n))) h = absurd (omega arith)

-- bytes that are taken as they are
same-is : (test : Bytes → Bool) (b : Bytes) → Holds (λ s. s ≡ b) (when (test b) b)
same-is test b = when-holds (λ s. s ≡ b) (test b) b (λ e. refl)

-- a tag has a byte
tag_one : (b : Bytes) → is_tag b ≡ true → tag_fields b ≡ b ∷ []
unfolding is_tag
tag_one [] h = clash h refl
tag_one (x ∷ b) h = refl

abbrev TagOf : List Bytes → Bytes × List Bytes → Type 0
TagOf fs p = tag_fields p.0 ++ p.1 ≡ fs

tag_is : Takes TagOf tag
tag_is = record { taken = λ fs. of fs }
  where
    of : (fs : List Bytes) → Holds (TagOf fs) (tag fs)
    of [] = refl
    of (b ∷ fs) = when-holds (TagOf (b ∷ fs)) (is_tag b) (b, fs) (λ e. ap (λ r. r ++ fs) (tag_one b e))

-- ---- T lines

-- the same fields, behind a word
behind : {w b : Bytes} (fs : List Bytes) → w ≡ b → w ∷ fs ≡ b ∷ fs
behind fs e = ap (λ x. x ∷ fs) e

kind-back : (w : Bytes) → Back (λ fs k. kind_fields k ≡ w ∷ fs) (kind_form w)
unfolding kind_form
kind-back w =
    word_back "basic" w (λ q. field_back (number max_basic) decimal (number_is max_basic (omega arith)) (λ k. done-back (Basic k) (behind _ q)))
    (word_back "array" w (λ q. field_back (number max_array) decimal (number_is max_array (omega arith)) (λ n. field_back type_ref type_bytes type-is (λ e. done-back (Array n e) (behind _ q))))
    (word_back "slice" w (λ q. field_back type_ref type_bytes type-is (λ e. done-back (Slice e) (behind _ q)))
    (word_back "pointer" w (λ q. field_back type_ref type_bytes type-is (λ e. done-back (Pointer e) (behind _ q)))
    (word_back "map" w (λ q. field_back type_ref type_bytes type-is (λ k. field_back type_ref type_bytes type-is (λ e. done-back (Map k e) (behind _ q))))
    (word_back "chan" w (λ q. field_back direction (λ d. decimal (dir_number d)) direction-is (λ d. field_back type_ref type_bytes type-is (λ e. done-back (Chan d e) (behind _ q))))
    (word_back "tuple" w (λ q. bind-back (others-is type_ref type_bytes type-is)
    (λ es fs. done-back (Tuple es) (λ e. ap₂ (λ x xs. x ∷ xs) q e)))
    (word_back "func" w (λ q. field_back flag_bit flag_bytes flag_is (λ v. field_back type_ref type_bytes type-is (λ p. field_back type_ref type_bytes type-is (λ r. done-back (Func v p r) (behind _ q)))))
    (word_back "struct" w (λ q. done-back (Struct []) (behind _ q))
    (word_back "iface" w (λ q. done-back (Iface []) (behind _ q))
    (word_back "named" w (λ q. field_back type_ref type_bytes type-is (λ u. done-back (Named u []) (behind _ q)))
    none-back))))))))))

-- ---- all lines

line-form : (l : Bytes) → Back (λ fs x. letter_of x ∷ behind_letter x ≡ l ∷ fs) (line_form l)
unfolding line_form
line-form l =
    word_back "P" l (λ q. field_back (λ b. when (is_path b) b) (λ p. p) (same-is is_path) (λ p. done-back (package_line p) (behind _ q)))
    (word_back "T" l (λ q. field_back some (λ w. w) (λ b. refl) (λ w. bind-back (kind-takes w) (λ k fs. done-back (type_line k) (λ e. ap₂ (λ x xs. x ∷ xs) q e))))
    (word_back "F" l (λ q. field_back field_name (λ n. n) (same-is is_name) (λ name. field_back package_ref package_bytes package-is (λ pkg. field_back type_ref type_bytes type-is (λ type.
    field_back flag_bit flag_bytes flag_is (λ emb. bind-back tag_is (λ t fs. done-back (member_line name pkg type (Field emb t)) (λ e. tagged q name pkg type emb t fs e)))))))
    (word_back "M" l (λ q. field_back method_name (λ n. n) (same-is (λ b. is_name b && not (is_blank b))) (λ name. field_back package_ref package_bytes package-is (λ pkg.
    field_back type_ref type_bytes type-is (λ sig. field_back flag_bit flag_bytes flag_is (λ ptr. done-back (member_line name pkg sig (Method ptr)) (behind _ q))))))
    none-back)))
  where
    kind-takes : (w : Bytes) → Takes (λ fs p. kind_fields p.0 ≡ w ∷ fs) (kind_form w)
    kind-takes w = record { taken = (kind-back w).given }

    tagged : ascii "F" ≡ l → (name : Bytes) (pkg : Option PackageKey) (type : TypeKey) (emb : Bool) (t : Bytes) (fs : List Bytes) → tag_fields t ++ [] ≡ fs
        → ascii "F" ∷ name ∷ package_bytes pkg ∷ type_bytes type ∷ flag_bytes emb ∷ tag_fields t ≡ l ∷ name ∷ package_bytes pkg ∷ type_bytes type ∷ flag_bytes emb ∷ fs
    tagged q name pkg type emb t fs e = rw (q, ← e, append-nil (tag_fields t))

whole_back : {A : Type 0} (Q : List Bytes → A → Type 0) (r : Reader A) → Back Q r → (fs : List Bytes) → Holds (Q fs) (whole r fs)
whole_back {A} Q r h fs = go (r fs) (h.given fs)
  where
    go : (o : Option (A × List Bytes)) → Holds (First (Q fs)) o → Holds (Q fs) (mapped (λ p. p.0) o)
    go none z = tt
    go (some p) z = z

-- THE FIELDS OF A LINE COME BACK
pub line-back : (fs : List Bytes) (l : Line) → line_of fs ≡ some l → letter_of l ∷ behind_letter l ≡ fs
unfolding line_of
line-back fs l e =
    holds-some (λ x. letter_of x ∷ behind_letter x ≡ fs) (line_of fs) l e
    (whole_back (λ gs x. letter_of x ∷ behind_letter x ≡ gs) (field some >>= line_form) (field_back some (λ b. b) (λ b. refl) line-form) fs)

-- and so do its bytes
pub body_back : (piece : Bytes) (l : Line) → line_of (fields piece) ≡ some l → line_body l ≡ piece
unfolding line_body fields
body_back piece l e = sym (joined-tabs (letter_of l) (behind_letter l)) ∙ ap (joined 9) (line-back (fields piece) l e) ∙ join-split 9 piece
