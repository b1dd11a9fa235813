-- The steps of a line (specs/Steps.antt) are the forms of the rules.
use mathlib.Core.Path.{◌≡◌, refl, sym, ap, ◌∙◌}
use mathlib.Core.Bool.{Bool, true, false, cond}
use mathlib.Core.List.{List, [], ◌∷◌}
use mathlib.Core.Option.{Option, none, some}
use Prim.Native.Nat.{ℕ, zero, suc, ◌+◌, ◌≤◌}
use native.Mathlib.Omega.{arith}
use lib.Dec.{eqb}
use Rattle.objects.specs.declared.TypeKey.{TypeKey}
use Rattle.objects.specs.declared.PackageKey.{PackageKey}
use Rattle.objects.specs.Bounds.{max_reference, max_basic, max_array}
use Rattle.objects.specs.Lists.{Bytes, when, mapped}
use Rattle.objects.specs.Table.{Kind, Basic, Array, Slice, Pointer, Map, Chan, Tuple, Func, Named, Field, Method, type_key}
use Rattle.objects.specs.Rows.{kind_of, entity_of, dir_at, members_from}
use Rattle.objects.proofs.ListLaws.{cases}
use Rattle.text.specs.Bytes.{ascii, same_bytes, is_path, number}
use Rattle.text.specs.Readers.{Reader, ◌>>=◌, field, others, done}
use Rattle.text.proofs.ByteLaws.{same_true}
use Rattle.text.proofs.Gives.{Holds, number-max}
use Rattle.rules.specs.Forms.{Line, type_line, member_line, type_ref, package_ref, flag_bit, direction, field_name, method_name, tag, kind_form, line_form, line_of}
use Rattle.std.specs.declared.option.Option as code
use Rattle.std.specs.Prelude.{None}
use Rattle.line_forms.specs.declared.Form.{Form}
use Rattle.line_forms.specs.Forms.{form_meant, form_read}
use Rattle.line_forms.proofs.Chain.{read-meant}
use Rattle.line_forms.specs.Steps.{next, ended, tried, numbered, packaged, pathed, named, method_named, tagged, bare_kind, none_rest, one_rest, two_rest, func_rest, all_read, elements_read, tuple_of, tuple_rest, last_kinds, next_kinds, type_rest, package_rest, typed_rest, field_rest, method_rest, line_rest}

-- ---- steps one after the other

next-next : {A B C : Type 0} (k : A → List Bytes → Option (B × List Bytes)) (j : B → List Bytes → Option C) (o : Option (A × List Bytes))
    → next (next o k) j ≡ next o (λ a r. next (k a r) j)
unfolding next
next-next k j none = refl
next-next k j (some p) = refl

next-ext : {A B : Type 0} (k j : A → List Bytes → Option B) → ((a : A) (r : List Bytes) → k a r ≡ j a r) → (o : Option (A × List Bytes)) → next o k ≡ next o j
unfolding next
next-ext k j h none = refl
next-ext k j h (some p) = h p.0 p.1

-- one reader behind the other, as the rules have it
bind-next : {A B : Type 0} (r : Reader A) (f : A → Reader B) (k : A → List Bytes → Option (B × List Bytes)) → ((a : A) (q : List Bytes) → f a q ≡ k a q)
    → (fs : List Bytes) → (r >>= f) fs ≡ next (r fs) k
unfolding next
bind-next {A} {B} r f k h fs = go (r fs) refl
  where
    go : (o : Option (A × List Bytes)) → r fs ≡ o → (r >>= f) fs ≡ next (r fs) k
    go none e = rw (◌>>=◌, e)
    go (some p) e = rw (◌>>=◌, e) (h p.0 p.1)

-- a number that is read as something else
module _ {X C : Type 0} (g : Bytes → Option X) (f : ℕ → X) (max : ℕ) (is : (b : Bytes) → g b ≡ mapped f (number max b)) where
  number-next : (k : X → List Bytes → Option C) (j : ℕ → List Bytes → Option C) → ((n : ℕ) (r : List Bytes) → n ≤ max → k (f n) r ≡ j n r)
      → (fs : List Bytes) → next (field g fs) k ≡ next (numbered max fs) j
  unfolding next numbered
  number-next k j h [] = refl
  number-next k j h (b ∷ fs) = rw (is b) (go (number max b) (number-max max b))
    where
      go : (o : Option ℕ) → Holds (λ n. n ≤ max) o → next (mapped (λ x. (x, fs)) (mapped f o)) k ≡ next (mapped (λ n. (n, fs)) o) j
      go none w = refl
      go (some n) w = h n fs w

same_number : (max : ℕ) (b : Bytes) → number max b ≡ mapped (λ n. n) (number max b)
same_number max b = go (number max b)
  where
    go : (o : Option ℕ) → o ≡ mapped (λ n. n) o
    go none = refl
    go (some n) = refl

-- ---- T lines

-- a kind becomes a line
abbrev lined : Kind → List Bytes → Option (Line × List Bytes)
lined k r = done (type_line k) r

done-lined : (k : Kind) (r : List Bytes) → next (done k r) lined ≡ ended (type_line k) r
unfolding next ended
done-lined k [] = refl
done-lined k (b ∷ r) = refl

-- the kind w's fields, as a T line
abbrev kinded : List Bytes → Bytes → Option (Line × List Bytes)
kinded fs w = next (kind_form w fs) lined

module _ {X : Type 0} (g : Bytes → Option X) (f : ℕ → X) (max : ℕ) (is : (b : Bytes) → g b ≡ mapped f (number max b)) (kind : ℕ) where
  one_number : (K : X → Kind) → ((n : ℕ) → K (f n) ≡ bare_kind kind n 0 0) → (fs : List Bytes) → one_rest kind max fs ≡ next ((do x ← field g; done (K x)) fs) lined
  unfolding one_rest
  one_number K h fs =
      sym (ap (λ o. next o lined) (bind-next (field g) (λ x. done (K x)) (λ x r. done (K x) r) (λ x r. refl) fs)
      ∙ next-next (λ x r. done (K x) r) lined (field g fs)
      ∙ number-next g f max is (λ x r. next (done (K x) r) lined) (λ n r. ended (type_line (bare_kind kind n 0 0)) r) (λ n r _. done-lined (K (f n)) r ∙ ap (λ k. ended (type_line k) r) (h n)) fs)

  two-numbers : (K : X → TypeKey → Kind) → ((n e : ℕ) → K (f n) (type_key e) ≡ bare_kind kind n e 0)
      → (fs : List Bytes) → two_rest kind max fs ≡ next ((do x ← field g; e ← field type_ref; done (K x e)) fs) lined
  unfolding two_rest
  two-numbers K h fs =
      sym (ap (λ o. next o lined) (bind-next (field g) _ (λ x r. next (field type_ref r) (λ e q. done (K x e) q)) (λ x r. bind-next (field type_ref) (λ e. done (K x e)) (λ e q. done (K x e) q) (λ e q. refl) r) fs)
      ∙ next-next (λ x r. next (field type_ref r) (λ e q. done (K x e) q)) lined (field g fs)
      ∙ number-next g f max is (λ x r. next (next (field type_ref r) (λ e q. done (K x e) q)) lined) (λ n r. next (numbered max_reference r) (λ e q. ended (type_line (bare_kind kind n e 0)) q))
      (λ n r _. next-next (λ e q. done (K (f n) e) q) lined (field type_ref r)
      ∙ number-next type_ref type_key max_reference (λ b. refl) (λ e q. next (done (K (f n) e) q) lined) (λ e q. ended (type_line (bare_kind kind n e 0)) q)
      (λ e q _. done-lined (K (f n) (type_key e)) q ∙ ap (λ k. ended (type_line k) q) (h n e)) r) fs)

func-kind : (n p t : ℕ) → Func (eqb n 1) (type_key p) (type_key t) ≡ bare_kind 7 n p t
unfolding kind_of
func-kind n p t = refl

func-fields : (fs : List Bytes) → (do v ← field flag_bit; p ← field type_ref; r ← field type_ref; done (Func v p r)) fs
    ≡ next (field flag_bit fs) (λ v r. next (field type_ref r) (λ p q. next (field type_ref q) (λ t o. done (Func v p t) o)))
func-fields fs =
    bind-next (field flag_bit) _ (λ v r. next (field type_ref r) (λ p q. next (field type_ref q) (λ t o. done (Func v p t) o)))
    (λ v r. bind-next (field type_ref) _ (λ p q. next (field type_ref q) (λ t o. done (Func v p t) o))
    (λ p q. bind-next (field type_ref) (λ t. done (Func v p t)) (λ t o. done (Func v p t) o) (λ t o. refl) q) r) fs

func-numbers : (fs : List Bytes) → func_rest fs ≡ kinded fs (ascii "func")
unfolding func_rest kind_form
func-numbers fs =
    sym (ap (λ o. next o lined) (func-fields fs)
    ∙ next-next (λ v r. next (field type_ref r) (λ p q. next (field type_ref q) (λ t o. done (Func v p t) o))) lined (field flag_bit fs)
    ∙ number-next flag_bit (λ n. eqb n 1) 1 (λ b. refl) (λ v r. next (next (field type_ref r) (λ p q. next (field type_ref q) (λ t o. done (Func v p t) o))) lined)
    (λ v r. next (numbered max_reference r) (λ p q. next (numbered max_reference q) (λ t o. ended (type_line (bare_kind 7 v p t)) o)))
    (λ n r _. next-next (λ p q. next (field type_ref q) (λ t o. done (Func (eqb n 1) p t) o)) lined (field type_ref r)
    ∙ number-next type_ref type_key max_reference (λ b. refl) (λ p q. next (next (field type_ref q) (λ t o. done (Func (eqb n 1) p t) o)) lined)
    (λ p q. next (numbered max_reference q) (λ t o. ended (type_line (bare_kind 7 n p t)) o))
    (λ p q _. next-next (λ t o. done (Func (eqb n 1) (type_key p) t) o) lined (field type_ref q)
    ∙ number-next type_ref type_key max_reference (λ b. refl) (λ t o. next (done (Func (eqb n 1) (type_key p) t) o) lined) (λ t o. ended (type_line (bare_kind 7 n p t)) o)
    (λ t o _. done-lined (Func (eqb n 1) (type_key p) (type_key t)) o ∙ ap (λ k. ended (type_line k) o) (func-kind n p t)) q) r) fs)

-- a tuple's elements
pub others-read : (fs : List Bytes) → others type_ref fs ≡ when (all_read fs) (elements_read fs, [])
unfolding all_read elements_read
others-read [] = refl
others-read (b ∷ fs) = go (number max_reference b) refl (others-read fs)
  where
    more : (e : TypeKey) (t : Bool) (es : List TypeKey) → mapped {A = List TypeKey × List Bytes} {B = List TypeKey × List Bytes} (λ p. (e ∷ p.0, p.1)) (when t (es, [])) ≡ when t (e ∷ es, [])
    more e true es = refl
    more e false es = refl

    go : (o : Option ℕ) → number max_reference b ≡ o → others type_ref fs ≡ when (all_read fs) (elements_read fs, [])
        → others type_ref (b ∷ fs) ≡ when (all_read (b ∷ fs)) (elements_read (b ∷ fs), [])
    go none e h = rw (others, all_read, elements_read, e)
    go (some n) e h = rw (others, all_read, elements_read, e, h) (more (type_key n) (all_read fs) (elements_read fs))

tuple-lined : (t : Bool) (es : List TypeKey)
    → next (next {A = List TypeKey} (when t (es, [])) (λ x r. done (Tuple x) r)) lined ≡ mapped {B = Line × List Bytes} (λ l. (l, [])) (when t (type_line (Tuple es)))
unfolding next
tuple-lined true es = refl
tuple-lined false es = refl

tuple-elements : (fs : List Bytes) → tuple_rest fs ≡ kinded fs (ascii "tuple")
unfolding tuple_rest tuple_of kind_form
tuple-elements fs =
    sym (ap (λ o. next o lined) (bind-next (others type_ref) (λ es. done (Tuple es)) (λ es r. done (Tuple es) r) (λ es r. refl) fs)
    ∙ ap (λ o. next (next o (λ es r. done (Tuple es) r)) lined) (others-read fs)
    ∙ tuple-lined (all_read fs) (elements_read fs))

-- the word is the one that was tried, or none of those before
word-is : {X : Type 0} (b v : Bytes) (R : Bytes → X) {x off : X} → x ≡ R v → (same_bytes b v ≡ false → off ≡ R b) → cond (same_bytes b v) x off ≡ R b
word-is b v R q n = cases (same_bytes b v) (λ e. rw e (q ∙ ap R (sym (same_true b v e)))) (λ e. rw e (n e))

-- none of the words
no_kind : (w : Bytes) (fs : List Bytes)
    → same_bytes w (ascii "basic") ≡ false → same_bytes w (ascii "array") ≡ false → same_bytes w (ascii "slice") ≡ false → same_bytes w (ascii "pointer") ≡ false
    → same_bytes w (ascii "map") ≡ false → same_bytes w (ascii "chan") ≡ false → same_bytes w (ascii "tuple") ≡ false → same_bytes w (ascii "func") ≡ false
    → same_bytes w (ascii "struct") ≡ false → same_bytes w (ascii "iface") ≡ false → same_bytes w (ascii "named") ≡ false
    → none ≡ kinded fs w
unfolding kind_form next
no_kind w fs e0 e1 e2 e3 e4 e5 e6 e7 e8 e9 e10 = rw (e0, e1, e2, e3, e4, e5, e6, e7, e8, e9, e10)

-- each kind, by its word
kind-basic : (fs : List Bytes) → one_rest 0 max_basic fs ≡ kinded fs (ascii "basic")
unfolding kind_form kind_of
kind-basic = one_number (number max_basic) (λ n. n) max_basic (same_number max_basic) 0 Basic (λ n. refl)

kind-array : (fs : List Bytes) → two_rest 1 max_array fs ≡ kinded fs (ascii "array")
unfolding kind_form kind_of
kind-array = two-numbers (number max_array) (λ n. n) max_array (same_number max_array) 1 Array (λ n e. refl)

kind-slice : (fs : List Bytes) → one_rest 2 max_reference fs ≡ kinded fs (ascii "slice")
unfolding kind_form kind_of
kind-slice = one_number type_ref type_key max_reference (λ b. refl) 2 Slice (λ n. refl)

kind-pointer : (fs : List Bytes) → one_rest 3 max_reference fs ≡ kinded fs (ascii "pointer")
unfolding kind_form kind_of
kind-pointer = one_number type_ref type_key max_reference (λ b. refl) 3 Pointer (λ n. refl)

kind-map : (fs : List Bytes) → two_rest 4 max_reference fs ≡ kinded fs (ascii "map")
unfolding kind_form kind_of
kind-map = two-numbers type_ref type_key max_reference (λ b. refl) 4 Map (λ n e. refl)

kind-chan : (fs : List Bytes) → two_rest 5 2 fs ≡ kinded fs (ascii "chan")
unfolding kind_form kind_of dir_at
kind-chan = two-numbers direction dir_at 2 (λ b. refl) 5 Chan (λ n e. refl)

kind-struct : (fs : List Bytes) → none_rest 8 fs ≡ kinded fs (ascii "struct")
unfolding none_rest kind_form kind_of members_from
kind-struct fs = sym (done-lined _ fs)

kind-iface : (fs : List Bytes) → none_rest 9 fs ≡ kinded fs (ascii "iface")
unfolding none_rest kind_form kind_of members_from
kind-iface fs = sym (done-lined _ fs)

kind-named : (fs : List Bytes) → one_rest 10 max_reference fs ≡ kinded fs (ascii "named")
unfolding kind_form kind_of members_from
kind-named = one_number type_ref type_key max_reference (λ b. refl) 10 (λ u. Named u []) (λ n. refl)

type-steps : (fs : List Bytes) → type_rest fs ≡ line_form (ascii "T") fs
unfolding type_rest next_kinds last_kinds tried line_form
type-steps [] = refl
type-steps (w ∷ fs) =
    (word-is w (ascii "basic") (kinded fs) (kind-basic fs) λ e0.
    word-is w (ascii "array") (kinded fs) (kind-array fs) λ e1.
    word-is w (ascii "slice") (kinded fs) (kind-slice fs) λ e2.
    word-is w (ascii "pointer") (kinded fs) (kind-pointer fs) λ e3.
    word-is w (ascii "map") (kinded fs) (kind-map fs) λ e4.
    word-is w (ascii "chan") (kinded fs) (kind-chan fs) λ e5.
    word-is w (ascii "tuple") (kinded fs) (tuple-elements fs) λ e6.
    word-is w (ascii "func") (kinded fs) (func-numbers fs) λ e7.
    word-is w (ascii "struct") (kinded fs) (kind-struct fs) λ e8.
    word-is w (ascii "iface") (kinded fs) (kind-iface fs) λ e9.
    word-is w (ascii "named") (kinded fs) (kind-named fs) λ e10.
    no_kind w fs e0 e1 e2 e3 e4 e5 e6 e7 e8 e9 e10)
    ∙ sym (bind-next (kind_form w) (λ k. done (type_line k)) lined (λ k r. refl) fs)

-- ---- P, F and M lines

package-steps : (fs : List Bytes) → package_rest fs ≡ line_form (ascii "P") fs
unfolding package_rest pathed ended line_form
package-steps fs = sym (bind-next (field (λ b. when (is_path b) b)) _ _ (λ path r. refl) fs)

-- the bit: an embedded field, or a pointer receiver
field-bit : (n : ℕ) (tag : Bytes) → n ≤ 1 → entity_of n tag ≡ Field (eqb n 1) tag
unfolding entity_of
field-bit zero tag h = refl
field-bit (suc zero) tag h = refl
field-bit (suc (suc n)) tag h = absurd (omega arith)

method-bit : (n : ℕ) (tag : Bytes) → n ≤ 1 → entity_of (2 + n) tag ≡ Method (eqb n 1)
unfolding entity_of
method-bit zero tag h = refl
method-bit (suc zero) tag h = refl
method-bit (suc (suc n)) tag h = absurd (omega arith)

given-on : {A B : Type 0} (f : A → List Bytes → Option B) (a : A) (r : List Bytes) → next (some (a, r)) f ≡ f a r
unfolding next
given-on f a r = refl

field-ended : (name : Bytes) (pkg : Option PackageKey) (t : TypeKey) (n : ℕ) (tag : Bytes) (o : List Bytes) → n ≤ 1
    → ended (member_line name pkg t (entity_of n tag)) o ≡ done (member_line name pkg t (Field (eqb n 1) tag)) o
unfolding ended
field-ended name pkg t n tag o w = rw (field-bit n tag w)

method-ended : (name : Bytes) (pkg : Option PackageKey) (t : TypeKey) (n : ℕ) (o : List Bytes) → n ≤ 1
    → ended (member_line name pkg t (entity_of (2 + n) [])) o ≡ done (member_line name pkg t (Method (eqb n 1))) o
unfolding ended
method-ended name pkg t n o w = rw (method-bit n [] w)

typed-steps : {C : Type 0} (K : Option PackageKey → TypeKey → Bool → List Bytes → Option C) (J : (Option PackageKey × TypeKey × ℕ) → List Bytes → Option C)
    → ((pkg : Option PackageKey) (t : TypeKey) (n : ℕ) (r : List Bytes) → n ≤ 1 → K pkg t (eqb n 1) r ≡ J (pkg, t, n) r)
    → (fs : List Bytes) → next (typed_rest fs) J ≡ next (field package_ref fs) (λ pkg r. next (field type_ref r) (λ t q. next (field flag_bit q) (λ b o. K pkg t b o)))
unfolding typed_rest packaged
typed-steps K J h fs =
    next-next _ J (field package_ref fs)
    ∙ next-ext _ _ (λ pkg r. next-next _ J (numbered max_reference r)
    ∙ sym (number-next type_ref type_key max_reference (λ b. refl) (λ t q. next (field flag_bit q) (λ b o. K pkg t b o)) _
    (λ t q _. number-next flag_bit (λ n. eqb n 1) 1 (λ b. refl) (λ b o. K pkg (type_key t) b o) (λ n o. J (pkg, type_key t, n) o) (λ n o w. h pkg (type_key t) n o w) q
    ∙ sym (last pkg t q)) r)) (field package_ref fs)
  where
    last : (pkg : Option PackageKey) (t : ℕ) (q : List Bytes) → next (next (numbered 1 q) (λ n o. some ((pkg, type_key t, n), o))) J ≡ next (numbered 1 q) (λ n o. J (pkg, type_key t, n) o)
    last pkg t q = next-next (λ n o. some ((pkg, type_key t, n), o)) J (numbered 1 q) ∙ next-ext _ _ (λ n o. given-on J (pkg, type_key t, n) o) (numbered 1 q)

member-fields : (C : Option PackageKey → TypeKey → Bool → Reader Line) (fs : List Bytes) → (do pkg ← field package_ref; t ← field type_ref; b ← field flag_bit; C pkg t b) fs
    ≡ next (field package_ref fs) (λ pkg r. next (field type_ref r) (λ t q. next (field flag_bit q) (λ b o. C pkg t b o)))
member-fields C fs =
    bind-next (field package_ref) _ (λ pkg r. next (field type_ref r) (λ t q. next (field flag_bit q) (λ b o. C pkg t b o)))
    (λ pkg r. bind-next (field type_ref) _ (λ t q. next (field flag_bit q) (λ b o. C pkg t b o))
    (λ t q. bind-next (field flag_bit) (λ b. C pkg t b) (λ b o. C pkg t b o) (λ b o. refl) q) r) fs

-- what follows the bit on an F line
abbrev field_end : Bytes → Option PackageKey → TypeKey → Bool → Reader Line
field_end name pkg t emb = do x ← tag; done (member_line name pkg t (Field emb x))

field-steps : (fs : List Bytes) → field_rest fs ≡ line_form (ascii "F") fs
unfolding field_rest named tagged line_form
field-steps fs =
    sym (bind-next (field field_name) _ _ (λ name r. member-fields (field_end name) r ∙ sym (typed-steps (λ pkg t emb q. field_end name pkg t emb q)
    (λ h q. next (tag q) (λ x o. ended (member_line name h.0 h.1 (entity_of h.2 x)) o))
    (λ pkg t n q w. bind-next tag _ _ (λ x o. sym (field-ended name pkg t n x o w)) q) r)) fs)

method-steps : (fs : List Bytes) → method_rest fs ≡ line_form (ascii "M") fs
unfolding method_rest method_named line_form
method-steps fs =
    sym (bind-next (field method_name) _ _ (λ name r. member-fields (λ pkg t ptr. done (member_line name pkg t (Method ptr))) r ∙ sym (typed-steps (λ pkg t ptr q. done (member_line name pkg t (Method ptr)) q)
    (λ h q. ended (member_line name h.0 h.1 (entity_of (2 + h.2) [])) q)
    (λ pkg t n q w. sym (method-ended name pkg t n q w)) r)) fs)

-- ---- any line

no-letter : (l : Bytes) (fs : List Bytes) → same_bytes l (ascii "P") ≡ false → same_bytes l (ascii "T") ≡ false → same_bytes l (ascii "F") ≡ false → same_bytes l (ascii "M") ≡ false
    → none ≡ line_form l fs
unfolding line_form
no-letter l fs p t f m = rw (p, t, f, m)

letter-steps : (l : Bytes) (fs : List Bytes) → line_rest (l ∷ fs) ≡ line_form l fs
unfolding line_rest tried
letter-steps l fs =
    word-is l (ascii "P") (λ x. line_form x fs) (package-steps fs) λ p.
    word-is l (ascii "T") (λ x. line_form x fs) (type-steps fs) λ t.
    word-is l (ascii "F") (λ x. line_form x fs) (field-steps fs) λ f.
    word-is l (ascii "M") (λ x. line_form x fs) (method-steps fs) λ m.
    no-letter l fs p t f m

none-line : mapped {A = Line × List Bytes} (λ p. p.0) (line_rest []) ≡ none
unfolding line_rest tried
none-line = refl

-- THE STEPS ARE THE FORM OF A LINE (4)
pub line-steps : (fs : List Bytes) → mapped (λ p. p.0) (line_rest fs) ≡ line_of fs
unfolding line_of
line-steps [] = none-line
line-steps (l ∷ fs) = ap (mapped (λ p. p.0)) (letter-steps l fs)

pub parsed : (s : Bytes) (fs : List Bytes) (r : code.Option Form) → form_read s r ≡ line_rest fs → form_meant s r ≡ line_of fs
parsed s fs r h = sym (read-meant s r) ∙ ap (mapped (λ p. p.0)) h ∙ line-steps fs

pub no-form : (s : Bytes) (fs : List Bytes) → line_rest fs ≡ none → form_meant s None ≡ line_of fs
unfolding form_meant form_read
no-form s fs h = parsed s fs None (sym h)
