-- A line has 8 bytes at least for a type or member that it brings, and 2 for each element: a kind's word has 5 bytes, or fewer and a number behind it; what a field
-- gives takes a tab and a byte.
use mathlib.Core.Path.{◌≡◌, refl, sym, ap, ◌∙◌}
use mathlib.Core.Bool.{Bool, true, false}
use mathlib.Core.List.{List, [], ◌∷◌}
use mathlib.Core.Option.{Option, none, some}
use Prim.Native.Nat.{ℕ, suc, ◌+◌, ◌*◌, ◌≤◌}
use native.Mathlib.Omega.{arith}
use lib.Dec.{eqb}
use lib.ListN.{length}
use Rattle.objects.specs.declared.TypeKey.{TypeKey}
use Rattle.objects.specs.declared.PackageKey.{PackageKey}
use Rattle.objects.specs.Bounds.{max_reference}
use Rattle.objects.specs.Lists.{Bytes, mapped}
use Rattle.objects.specs.Table.{type_key, package_key}
use Rattle.objects.specs.Rows.{kind_of}
use Rattle.objects.proofs.ListLaws.{cases}
use Rattle.text.specs.Bytes.{same_bytes, is_name, is_numeral, number}
use Rattle.text.specs.Lines.{before, split, fields}
use Rattle.text.specs.Readers.{field}
use Rattle.text.proofs.ByteLaws.{same_true}
use Rattle.text.proofs.AnswerLaws.{none-some}
use Rattle.text.proofs.Gives.{Holds}
use Rattle.rules.specs.Forms.{Line, type_line, package_ref, field_name, method_name, line_of}
use Rattle.line_forms.specs.Steps.{next, ended, tried, numbered, packaged, named, method_named, typed_rest, bare_kind, none_rest, one_rest, two_rest, func_rest, all_read, elements_read, tuple_of, tuple_rest, last_kinds, next_kinds, type_rest, package_rest, field_rest, method_rest, line_rest}
use Rattle.line_forms.specs.Weights.{weight, tuple_size, line_types, types_in, line_members, members_in, line_elements, elements_of}
use Rattle.line_forms.proofs.StepLaws.{line-steps}

split-weight : (sep : ℕ) (s : Bytes) → weight (split sep s) ≡ suc (length s)
unfolding split
split-weight sep [] = refl
split-weight sep (b ∷ s) = go (eqb b sep) (split sep s) (split-weight sep s)
  where
    go : (t : Bool) (ps : List Bytes) → weight ps ≡ suc (length s) → weight (before t b ps) ≡ suc (length (b ∷ s))
    go true ps h = omega arith
    go false [] h = omega arith
    go false (p ∷ ps) h = omega arith

pub fields-weight : (s : Bytes) → weight (fields s) ≡ suc (length s)
unfolding fields
fields-weight s = split-weight 9 s

-- ---- a tuple's elements

no-digits : (max : ℕ) → number max [] ≡ none
unfolding number is_numeral
no-digits max = refl

pub elements-few : (fs : List Bytes) → 2 * length (elements_read fs) ≤ weight fs
unfolding elements_read
elements-few [] = omega arith
elements-few (b ∷ fs) = go b (number max_reference b) refl (elements-few fs)
  where
    go : (x : Bytes) (o : Option ℕ) → number max_reference x ≡ o → 2 * length (elements_read fs) ≤ weight fs → 2 * length (elements_read (x ∷ fs)) ≤ weight (x ∷ fs)
    go x none e h = rw (elements_read, e) (omega arith)
    go [] (some n) e h = none-some (sym (no-digits max_reference) ∙ e)
    go (y ∷ x) (some n) e h = rw (elements_read, e) (omega arith)

-- ---- a line by its steps

-- no field is empty that a reader takes
no_name : field_name [] ≡ none
unfolding is_name
no_name = refl

no-method : method_name [] ≡ none
unfolding is_name
no-method = refl

no-package : package_ref [] ≡ none
no-package = ap (mapped (λ n. some (package_key n))) (no-digits max_reference)

-- what was read took so many bytes of the fields
abbrev Takes : {A : Type 0} → ℕ → List Bytes → Option (A × List Bytes) → Type 0
Takes n fs o = Holds (λ p. n + weight p.1 ≤ weight fs) o

field-takes : {A : Type 0} (f : Bytes → Option A) → f [] ≡ none → (fs : List Bytes) → Takes 2 fs (field f fs)
field-takes f e [] = tt
field-takes {A = A} f e (b ∷ fs) = go b (f b) refl
  where
    go : (x : Bytes) (o : Option A) → f x ≡ o → Takes 2 (x ∷ fs) (mapped (λ a. (a, fs)) o)
    go x none q = tt
    go [] (some a) q = none-some (sym e ∙ q)
    go (y ∷ x) (some a) q = omega arith

-- package, type and bit
abbrev Head : Type 0
Head = Option PackageKey × TypeKey × ℕ

typed-takes : (fs : List Bytes) → Takes 6 fs (typed_rest fs)
unfolding typed_rest packaged numbered next
typed-takes fs = first (field package_ref fs) (field-takes package_ref no-package fs)
  where
    third : (pkg : Option PackageKey) (t : ℕ) (gs : List Bytes) → 4 + weight gs ≤ weight fs → (o : Option (ℕ × List Bytes)) → Takes 2 gs o
        → Takes {A = Head} 6 fs (next o λ bit hs. some ((pkg, type_key t, bit), hs))
    third pkg t gs h none k = tt
    third pkg t gs h (some p) k = omega arith

    second : (pkg : Option PackageKey) (gs : List Bytes) → 2 + weight gs ≤ weight fs → (o : Option (ℕ × List Bytes)) → Takes 2 gs o
        → Takes {A = Head} 6 fs (next o λ t hs. next (field (number 1) hs) λ bit is. some ((pkg, type_key t, bit), is))
    second pkg gs h none k = tt
    second pkg gs h (some p) k = third pkg p.0 p.1 (omega arith) (field (number 1) p.1) (field-takes (number 1) (no-digits 1) p.1)

    first : (o : Option (Option PackageKey × List Bytes)) → Takes 2 fs o
        → Takes {A = Head} 6 fs (next o λ pkg gs. next (field (number max_reference) gs) λ t hs. next (field (number 1) hs) λ bit is. some ((pkg, type_key t, bit), is))
    first none k = tt
    first (some p) k = second p.0 p.1 k (field (number max_reference) p.1) (field-takes (number max_reference) (no-digits max_reference) p.1)

-- the bytes that a line has at least for what it brings
abbrev line_bytes : Line → ℕ
line_bytes l = 8 * line_types l + 8 * line_members l + 2 * line_elements l

-- at most so many, if a line was read
abbrev Few : ℕ → Option (Line × List Bytes) → Type 0
Few n o = Holds (λ p. line_bytes p.0 ≤ n) o

module _ (n : ℕ) where
  next-few : {A : Type 0} (o : Option (A × List Bytes)) (k : A → List Bytes → Option (Line × List Bytes)) → ((a : A) (r : List Bytes) → Few n (k a r)) → Few n (next o k)
  unfolding next
  next-few none k h = tt
  next-few (some p) k h = h p.0 p.1

  -- with what the reader took
  taken-few : {A : Type 0} (w : ℕ) (fs : List Bytes) (o : Option (A × List Bytes)) (k : A → List Bytes → Option (Line × List Bytes)) → Takes w fs o
      → ((a : A) (r : List Bytes) → w + weight r ≤ weight fs → Few n (k a r)) → Few n (next o k)
  unfolding next
  taken-few w fs none k t h = tt
  taken-few w fs (some p) k t h = h p.0 p.1 t

  ended-few : (l : Line) → line_bytes l ≤ n → (r : List Bytes) → Few n (ended l r)
  unfolding ended
  ended-few l e [] = e
  ended-few l e (b ∷ r) = tt

  -- with the word that was read
  tried-few : (w : Bytes) (fs : List Bytes) (on : List Bytes → Option (Line × List Bytes)) (off : Option (Line × List Bytes))
      → ((r : List Bytes) → suc (length w) + weight r ≡ weight fs → Few n (on r)) → Few n off → Few n (tried w fs on off)
  unfolding tried
  tried-few w [] on off h k = k
  tried-few w (b ∷ fs) on off h k =
      cases (same_bytes b w)
      (λ e. let l = ap length (same_true b w e) in rw e (h fs (omega arith)))
      (λ e. rw e k)

  package-few : (fs : List Bytes) → Few n (package_rest fs)
  unfolding package_rest line_types line_members line_elements
  package-few fs = next-few _ _ (λ path r. ended-few _ (omega arith) r)

  field-few : (fs : List Bytes) → weight fs ≤ n → Few n (field_rest fs)
  unfolding field_rest named line_types line_members line_elements
  field-few fs w =
      taken-few 2 fs _ _ (field-takes field_name no_name fs) λ name r g.
      taken-few 6 r _ _ (typed-takes r) λ h q i.
      next-few _ _ λ t o. ended-few _ (omega arith) o

  method-few : (fs : List Bytes) → weight fs ≤ n → Few n (method_rest fs)
  unfolding method_rest method_named line_types line_members line_elements
  method-few fs w =
      taken-few 2 fs _ _ (field-takes method_name no-method fs) λ name r g.
      taken-few 6 r _ _ (typed-takes r) λ h q i.
      ended-few _ (omega arith) q

  -- a T line, of which the letter and the kind's word took 8 bytes at least
  module _ (eight : 8 ≤ n) where
    none-few : (kind : ℕ) → tuple_size (bare_kind kind 0 0 0) ≡ 0 → (fs : List Bytes) → Few n (none_rest kind fs)
    unfolding none_rest line_types line_members line_elements
    none-few kind e fs = ended-few (type_line (bare_kind kind 0 0 0)) (omega arith) fs

    one-few : (kind max : ℕ) → ((a : ℕ) → tuple_size (bare_kind kind a 0 0) ≡ 0) → (fs : List Bytes) → Few n (one_rest kind max fs)
    unfolding one_rest line_types line_members line_elements
    one-few kind max e fs = next-few _ _ (λ a r. ended-few (type_line (bare_kind kind a 0 0)) (let z = e a in omega arith) r)

  -- where several numbers follow the word may be shorter: the first of them takes 2 bytes
  two-few : (kind max : ℕ) → ((a b : ℕ) → tuple_size (bare_kind kind a b 0) ≡ 0) → (fs : List Bytes) → 6 + weight fs ≤ n → Few n (two_rest kind max fs)
  unfolding two_rest numbered line_types line_members line_elements
  two-few kind max e fs h =
      taken-few 2 fs _ _ (field-takes (number max) (no-digits max) fs) λ a r g.
      next-few _ _ λ b q. ended-few (type_line (bare_kind kind a b 0)) (let z = e a b in omega arith) q

  func-few : (fs : List Bytes) → 6 + weight fs ≤ n → Few n (func_rest fs)
  unfolding func_rest numbered line_types line_members line_elements kind_of tuple_size
  func-few fs h =
      taken-few 2 fs _ _ (field-takes (number 1) (no-digits 1) fs) λ v r g.
      next-few _ _ λ p q. next-few _ _ λ t o. ended-few (type_line (bare_kind 7 v p t)) (omega arith) o

  tuple-few : (fs : List Bytes) → 8 + weight fs ≤ n → Few n (tuple_rest fs)
  unfolding tuple_rest tuple_of line_types line_members line_elements tuple_size
  tuple-few fs h =
      let w = elements-few fs in
      cases (all_read fs) (λ e. rw e (omega arith)) (λ e. rw e tt)

  last-few : (fs : List Bytes) → 2 + weight fs ≤ n → Few n (last_kinds fs)
  unfolding last_kinds kind_of tuple_size
  last-few fs h =
      tried-few _ fs _ _ (λ r e. none-few (omega arith) 8 refl r)
      (tried-few _ fs _ _ (λ r e. none-few (omega arith) 9 refl r)
      (tried-few _ fs _ _ (λ r e. one-few (omega arith) 10 max_reference (λ a. refl) r)
      tt))

  next-kinds-few : (fs : List Bytes) → 2 + weight fs ≤ n → Few n (next_kinds fs)
  unfolding next_kinds kind_of tuple_size
  next-kinds-few fs h =
      tried-few _ fs _ _ (λ r e. two-few 4 _ (λ x y. refl) r (omega arith))
      (tried-few _ fs _ _ (λ r e. two-few 5 _ (λ x y. refl) r (omega arith))
      (tried-few _ fs _ _ (λ r e. tuple-few r (omega arith))
      (tried-few _ fs _ _ (λ r e. func-few r (omega arith))
      (last-few fs h))))

  type-few : (fs : List Bytes) → 2 + weight fs ≤ n → Few n (type_rest fs)
  unfolding type_rest kind_of tuple_size
  type-few fs h =
      tried-few _ fs _ _ (λ r e. one-few (omega arith) 0 _ (λ x. refl) r)
      (tried-few _ fs _ _ (λ r e. two-few 1 _ (λ x y. refl) r (omega arith))
      (tried-few _ fs _ _ (λ r e. one-few (omega arith) 2 _ (λ x. refl) r)
      (tried-few _ fs _ _ (λ r e. one-few (omega arith) 3 _ (λ x. refl) r)
      (next-kinds-few fs h))))

line-few : (fs : List Bytes) → Few (weight fs) (line_rest fs)
unfolding line_rest
line-few fs =
    tried-few (weight fs) _ fs _ _ (λ r e. package-few (weight fs) r)
    (tried-few (weight fs) _ fs _ _ (λ r e. type-few (weight fs) r (omega arith))
    (tried-few (weight fs) _ fs _ _ (λ r e. field-few (weight fs) r (omega arith))
    (tried-few (weight fs) _ fs _ _ (λ r e. method-few (weight fs) r (omega arith))
    tt)))

-- THE BYTES OF A LINE BOUND WHAT IT BRINGS
pub brought : (fs : List Bytes) → 8 * types_in (line_of fs) + 8 * members_in (line_of fs) + 2 * elements_of (line_of fs) ≤ weight fs
unfolding types_in members_in elements_of
brought fs = rw (sym (line-steps fs)) (go (line_rest fs) (line-few fs))
  where
    go : (o : Option (Line × List Bytes)) → Few (weight fs) o
        → 8 * types_in (mapped (λ p. p.0) o) + 8 * members_in (mapped (λ p. p.0) o) + 2 * elements_of (mapped (λ p. p.0) o) ≤ weight fs
    go none h = omega arith
    go (some p) h = h
