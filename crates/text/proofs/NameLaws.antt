-- Names, paths and tags: the field that the run of allowed bytes is, with the one test more that names and paths have.
use mathlib.Core.Path.{◌≡◌, refl, sym, ap, ◌∙◌, subst, fun_ext}
use mathlib.Core.Bool.{Bool, true, false, not, ◌&&◌, and-true, and-false}
use mathlib.Core.List.{List, [], ◌∷◌}
use mathlib.Core.Option.{Option, none, some}
use Prim.Native.Nat.{ℕ, ◌+◌, ◌≤◌, ◌<◌}
use native.Mathlib.Omega.{arith}
use lib.Dec.{eqb, ltb}
use lib.ListN.{length, get_or}
use borrow.Author.Tests.{eqb-true, eqb-false, leb-true, ltb-true, ltb-false}
use Rattle.objects.specs.Bounds.{max_name, max_path, max_tag}
use Rattle.objects.specs.Lists.{Bytes, every, when}
use Rattle.objects.proofs.ListLaws.{cases, and_l}
use Rattle.text.specs.declared.Cursor.{Cursor}
use Rattle.std.specs.declared.option.Option as code
use Rattle.std.specs.Prelude.{Some, None}
use Rattle.text.specs.declared.Part.{Part}
use Rattle.text.specs.Bytes.{between, sized, first_is, is_digit, is_name_byte, is_name, is_blank, is_path, is_tag}
use Rattle.text.specs.Readers.{field}
use Rattle.text.specs.Cursors.{part, part_read, fields_left}
use Rattle.text.specs.Runs.{stop_at, byte_in, run_end, Ended, EndsAt, closed_at, Exact, run_read}
use Rattle.text.proofs.PartLaws.{stop-in, part-next, part_none, byte-there, byte-within}
use Rattle.text.proofs.RunLaws.{fence-ended, fence-end}
use Rattle.text.proofs.AnswerLaws.{none-some, passed}
use Rattle.text.proofs.FieldLaws.{closed-reads, closed-exact}

-- ---- one test more of the next field

-- fields of which the next passes one test, and what a second test says of it
module _ (P Q : Bytes → Bool) where
  more-some : (fs : List Bytes) (x : Bytes) (rest : List Bytes) → field (λ b. when (P b) b) fs ≡ some (x, rest)
      → field (λ b. when (P b && Q b) b) fs ≡ when (Q x) (x, rest)
  more-some fs x rest h =
      let r = passed P fs h in
      cases (Q x) (λ t. rw (r.0, r.1, t)) (λ t. rw (r.0, r.1, t))

  more-none : (fs : List Bytes) → field (λ b. when (P b) b) fs ≡ none → field (λ b. when (P b && Q b) b) fs ≡ none
  more-none [] h = refl
  more-none (b ∷ fs) h =
      cases (P b)
      (λ e. none-some (let q : ◌≡◌ {A = Option (Bytes × List Bytes)} none (some (b, fs)) = sym (rw e at h) in q))
      (λ e. rw e)

both-tests : (P R : Bytes → Bool) → ((b : Bytes) → R b ≡ P b) → (fs : List Bytes) → field (λ b. when (R b) b) fs ≡ field (λ b. when (P b) b) fs
both-tests P R h fs = ap (λ f. field f fs) (fun_ext (λ b. ap (λ t. when t b) (h b)))

-- R is both tests; r is what reading by the first gave, t whether the second fails
module _ (p : ℕ → Bool) (max : ℕ) (Q R : Bytes → Bool) (both : (b : Bytes) → R b ≡ ((sized max b && every p b) && Q b))
    (s : Bytes) (fs : List Bytes) {r : code.Option Part} (pr : part_read s r ≡ field (run_read p max) fs) where
  one_more : {x : Part} {t : Bool} → r ≡ Some x → not t ≡ Q (part s x.from x.to) → t ≡ false
      → part_read s (Some x) ≡ field (λ b. when (R b) b) fs
  unfolding part_read run_read
  one_more {x} q pt e =
      let k : field (λ b. when (sized max b && every p b) b) fs ≡ part_read s (Some x) = sym pr ∙ ap (part_read s) q in
      let v : Q (part s x.from x.to) ≡ true = sym pt ∙ ap not e in
      sym (both-tests (λ b. (sized max b && every p b) && Q b) R both fs ∙ more-some (λ b. sized max b && every p b) Q fs (part s x.from x.to) _ k ∙ rw v)

  one_less : {x : Part} {t : Bool} → r ≡ Some x → not t ≡ Q (part s x.from x.to) → t ≡ true
      → none ≡ field (λ b. when (R b) b) fs
  unfolding part_read run_read
  one_less {x} q pt e =
      let k : field (λ b. when (sized max b && every p b) b) fs ≡ part_read s (Some x) = sym pr ∙ ap (part_read s) q in
      let v : Q (part s x.from x.to) ≡ false = sym pt ∙ ap not e in
      sym (both-tests (λ b. (sized max b && every p b) && Q b) R both fs ∙ more-some (λ b. sized max b && every p b) Q fs (part s x.from x.to) _ k ∙ rw v)

  none-less : r ≡ None → none ≡ field (λ b. when (R b) b) fs
  unfolding part_read run_read
  none-less q = sym (both-tests (λ b. (sized max b && every p b) && Q b) R both fs ∙ more-none (λ b. sized max b && every p b) Q fs (sym pr ∙ ap (part_read s) q))

-- ---- the tests of names, paths and tags

and-swap : (a b c : Bool) → (a && b) && c ≡ (a && c) && b
and-swap true true c = sym (and-true c)
and-swap true false c = sym (and-false c)
and-swap false b c = refl

name-both : (b : Bytes) → is_name b ≡ ((sized max_name b && every is_name_byte b) && not (first_is is_digit b))
unfolding is_name
name-both b = and-swap (sized max_name b) (not (first_is is_digit b)) (every is_name_byte b)

path-both : (b : Bytes) → is_path b ≡ ((sized max_path b && every (between 33 126) b) && not (is_blank b))
unfolding is_path
path-both b = refl

-- ---- where the bytes of a name end

-- t says that a newline, which is none of them, stands at the end
module _ (s : Bytes) (at end : ℕ) {stop : ℕ} (ps : stop ≡ stop_at s end) (h : at < stop) {b : ℕ} {t : Bool} (pb : b ≡ byte_in s stop (length s)) (pt : t ≡ eqb b 10) (e : t ≡ true) where
  newline : b ≡ 10
  newline = eqb-true b 10 (sym pt ∙ e)

  newline-within : stop < length s
  newline-within = let z = newline in byte-within s stop (length s) pb (omega arith)

  newline-other : is_name_byte (get_or s stop 0) ≡ false
  newline-other = let z = newline in ap is_name_byte (sym (byte-there s stop (length s) pb (omega arith)) ∙ z)

  pub newline-ended : Ended is_name_byte s at
  newline-ended = fence-ended is_name_byte s end ps newline-within newline-other at (omega arith)

  pub newline-end : {r : ℕ} → EndsAt is_name_byte s at r → r ≡ run_end is_name_byte s at end
  newline-end = fence-end is_name_byte s end ps newline-within newline-other at (omega arith)

-- r is the closed run of a name's bytes; t whether the first of them is a digit
module _ (s : Bytes) (c : Cursor) {to : ℕ} {r : code.Option Part} (pe : to ≡ run_end is_name_byte s c.at c.end) (pr : r ≡ closed_at s c to max_name) where
  run : part_read s r ≡ field (run_read is_name_byte max_name) (fields_left s c)
  run = closed-reads is_name_byte refl s c max_name pe pr

  pub name-wrong : r ≡ None → part_read s None ≡ field (λ b. when (is_name b) b) (fields_left s c)
  unfolding part_read
  name-wrong = none-less is_name_byte max_name (λ b. not (first_is is_digit b)) is_name name-both s (fields_left s c) run

  -- a name has a first byte
  name-begins : {x : Part} → r ≡ Some x → x.from < stop_at s x.to
  unfolding part_read run_read
  name-begins {x} q =
      let z = (passed (λ b. sized max_name b && every is_name_byte b) (fields_left s c) (sym run ∙ ap (part_read s) q)).1 in
      let l = leb-true 1 (length (part s x.from x.to)) (and_l _ _ (and_l _ _ z)) in
      cases (ltb x.from (stop_at s x.to))
      (λ e. ltb-true x.from (stop_at s x.to) e)
      (λ e. let k : length (part s x.from x.to) ≡ 0 = ap length (part_none s x.from x.to refl (ltb-false x.from (stop_at s x.to) e)) in absurd (omega arith))

  pub name-within : {x : Part} → r ≡ Some x → x.from < length s
  name-within {x} q = (stop-in s x.from x.to refl (name-begins q)).1

  module _ {x : Part} {b : ℕ} {t : Bool} (q : r ≡ Some x) (pb : b ≡ get_or s x.from 0) (pt : t ≡ is_digit b) where
    digit-first : not t ≡ not (first_is is_digit (part s x.from x.to))
    digit-first = ap not (pt ∙ ap is_digit pb ∙ sym (ap (first_is is_digit) (part-next s x.from x.to refl (name-begins q))))

    pub name-digit : t ≡ true → part_read s None ≡ field (λ b. when (is_name b) b) (fields_left s c)
    unfolding part_read
    name-digit = one_less is_name_byte max_name (λ b. not (first_is is_digit b)) is_name name-both s (fields_left s c) run q digit-first

    pub name-exact : Exact s (Some x)
    name-exact = subst (λ y. Exact s y) q (closed-exact is_name_byte refl s c max_name pe pr)

    pub name-is : t ≡ false → part_read s (Some x) ≡ field (λ b. when (is_name b) b) (fields_left s c)
    name-is = one_more is_name_byte max_name (λ b. not (first_is is_digit b)) is_name name-both s (fields_left s c) run q digit-first

-- r is the closed run of a path's bytes; t whether it is `_` alone
module _ (s : Bytes) (c : Cursor) {to : ℕ} {r : code.Option Part} (pe : to ≡ run_end (between 33 126) s c.at c.end) (pr : r ≡ closed_at s c to max_path) where
  visible : part_read s r ≡ field (run_read (between 33 126) max_path) (fields_left s c)
  visible = closed-reads (between 33 126) refl s c max_path pe pr

  pub path-wrong : r ≡ None → part_read s None ≡ field (λ b. when (is_path b) b) (fields_left s c)
  unfolding part_read
  path-wrong = none-less (between 33 126) max_path (λ b. not (is_blank b)) is_path path-both s (fields_left s c) visible

  module _ {x : Part} {t : Bool} (q : r ≡ Some x) (pt : t ≡ is_blank (part s x.from x.to)) where
    pub path-blank : t ≡ true → part_read s None ≡ field (λ b. when (is_path b) b) (fields_left s c)
    unfolding part_read
    path-blank = one_less (between 33 126) max_path (λ b. not (is_blank b)) is_path path-both s (fields_left s c) visible q (ap not pt)

    pub path-exact : Exact s (Some x)
    path-exact = subst (λ y. Exact s y) q (closed-exact (between 33 126) refl s c max_path pe pr)

    pub path-is : t ≡ false → part_read s (Some x) ≡ field (λ b. when (is_path b) b) (fields_left s c)
    path-is = one_more (between 33 126) max_path (λ b. not (is_blank b)) is_path path-both s (fields_left s c) visible q (ap not pt)

pub tag_is : (s : Bytes) (c : Cursor) {to : ℕ} {r : code.Option Part} → to ≡ run_end (between 32 126) s c.at c.end → r ≡ closed_at s c to max_tag
    → part_read s r ≡ field (λ b. when (is_tag b) b) (fields_left s c)
unfolding is_tag run_read
tag_is s c pe pr = closed-reads (between 32 126) refl s c max_tag pe pr

pub tag-exact : (s : Bytes) (c : Cursor) {to : ℕ} {r : code.Option Part} → to ≡ run_end (between 32 126) s c.at c.end → r ≡ closed_at s c to max_tag → Exact s r
tag-exact s c pe pr = closed-exact (between 32 126) refl s c max_tag pe pr

-- ---- `_` alone

module _ (s : Bytes) (from to : ℕ) {stop : ℕ} (ps : stop ≡ stop_at s to) where
  pub blank_none : stop ≤ from → is_blank (part s from to) ≡ false
  unfolding is_blank
  blank_none h = rw (part_none s from to ps h)

  module _ (h : from < stop) {b : ℕ} {t : Bool} (pb : b ≡ get_or s from 0) (pt : t ≡ eqb b 95) where
    byte-95 : eqb (get_or s from 0) 95 ≡ t
    byte-95 = ap (λ x. eqb x 95) (sym pb) ∙ sym pt

    pub blank-other : t ≡ false → is_blank (part s from to) ≡ false
    unfolding is_blank
    blank-other e = rw (part-next s from to ps h, byte-95, e)

    pub blank-first : t ≡ true → is_blank (part s from to) ≡ eqb stop (from + 1)
    unfolding is_blank
    blank-first e =
        cases (eqb stop (from + 1))
        (λ f. let z = eqb-true stop (from + 1) f in
        rw (part-next s from to ps h, byte-95, e, part_none s (from + 1) to ps (omega arith), f))
        (λ f. let z = eqb-false stop (from + 1) f in
        let y : from + 1 < stop = omega arith in
        rw (part-next s from to ps h, byte-95, e, part-next s (from + 1) to ps y, f))
