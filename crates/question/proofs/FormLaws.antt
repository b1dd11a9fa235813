-- What was read of a question stands for what the form behind its letter gives.
use mathlib.Core.Path.{◌≡◌, refl, sym, ◌∙◌}
use mathlib.Core.Bool.{Bool, true, false, not, ◌&&◌}
use mathlib.Core.List.{List, [], ◌∷◌}
use mathlib.Core.Option.{Option, none, some}
use Prim.Native.Nat.{◌-◌, ◌≤◌}
use native.Mathlib.Omega.{arith}
use lib.Dec.{leb}
use lib.ListN.{length}
use borrow.Author.Tests.{leb-true}
use Rattle.objects.specs.declared.TypeKey.{TypeKey}
use Rattle.std.specs.declared.option.Option as code
use Rattle.std.specs.Prelude.{Some, None}
use Rattle.std.specs.Bool.{then_some}
use Rattle.objects.specs.declared.PackageKey.{PackageKey}
use Rattle.objects.specs.Bounds.{max_name}
use Rattle.objects.specs.Lists.{Bytes, empty, every}
use Rattle.objects.specs.Rows.{bytes_at, package_meant}
use Rattle.objects.proofs.ListLaws.{cases, clash, and_l, and_r}
use Rattle.text.specs.declared.Cursor.{Cursor}
use Rattle.text.specs.declared.Part.{Part}
use Rattle.text.specs.Bytes.{ascii, is_name, sized, is_digit, first_is, is_name_byte}
use Rattle.text.specs.Readers.{field, done, whole}
use Rattle.text.specs.Cursors.{part, fields_left, part_read}
use Rattle.text.specs.Runs.{Exact}
use Rattle.text.proofs.AnswerLaws.{part-on, passed, exact-order, exact-size, exact-within}
use Rattle.text.proofs.FieldLaws.{done-left}
use Rattle.rules.specs.Forms.{type_ref, package_ref, flag_bit, field_name}
use Rattle.rules.specs.Question.{Question, ask_s, ask_m, ask_n, ask_i, ask_c, ask_v, question_form}
use Rattle.question.proofs.Steps.{then_read, value_of}
use Rattle.question.specs.declared.Ask.{Ask}
use Rattle.question.specs.Asks.{asks_meant, behind_letter, NameIn, Reads}

-- ---- what was read

pub reads_at : {line : Bytes} {a : code.Option Ask} {o p : Option Question} → p ≡ o → Reads line a o → Reads line a p
reads_at e h = record { meant = h.meant ∙ sym e; named = h.named }

pub wrong-reads : (line : Bytes) {o : Option Question} → o ≡ none → Reads line None o
unfolding asks_meant NameIn
wrong-reads line e = record { meant = sym e; named = tt }

pub m-reads : (line : Bytes) (t : TypeKey) → Reads line (Some (Ask.M t)) (some (ask_m t))
unfolding asks_meant NameIn
m-reads line t = record { meant = refl; named = tt }

pub n-reads : (line : Bytes) (t i : TypeKey) (s : Bool) → Reads line (Some (Ask.N t i s)) (some (ask_n t i s))
unfolding asks_meant NameIn
n-reads line t i s = record { meant = refl; named = tt }

pub i-reads : (line : Bytes) (x y : TypeKey) → Reads line (Some (Ask.I x y)) (some (ask_i x y))
unfolding asks_meant NameIn
i-reads line x y = record { meant = refl; named = tt }

pub c-reads : (line : Bytes) (t : TypeKey) → Reads line (Some (Ask.C t)) (some (ask_c t))
unfolding asks_meant NameIn
c-reads line t = record { meant = refl; named = tt }

pub v-reads : (line : Bytes) → Reads line (Some Ask.V) (some ask_v)
unfolding asks_meant NameIn
v-reads line = record { meant = refl; named = tt }

-- ---- no field is left

done-empty : {A : Type 0} (a : A) (fs : List Bytes) → empty fs ≡ true → whole (done a) fs ≡ some a
done-empty a [] h = refl
done-empty a (b ∷ fs) h = clash refl (sym h)

done_more : {A : Type 0} (a : A) (fs : List Bytes) → empty fs ≡ false → whole (done a) fs ≡ none
done_more a [] h = clash refl h
done_more a (b ∷ fs) h = refl

-- the question, if no field is left
pub ended-reads : (line : Bytes) (c : Cursor) {t : Bool} → t ≡ not c.more → (q : Question) (a : Ask) {r : code.Option Ask} → r ≡ then_some t a → Reads line (Some a) (some q)
    → Reads line r (whole (done q) (fields_left line c))
ended-reads line c {t} p q a {r} e h =
    cases t
    (λ y. let k : r ≡ Some a = rw y at e in rw k (reads_at (done-empty q (fields_left line c) (done-left line c ∙ sym p ∙ y)) h))
    (λ y. let k : r ≡ None = rw y at e in rw k (wrong-reads line (done_more q (fields_left line c) (done-left line c ∙ sym p ∙ y))))

-- ---- the forms

module _ (fs : List Bytes) where
  pub s-form : behind_letter (ascii "S") fs
      ≡ value_of (then_read (field type_ref) (λ t. then_read (field flag_bit) (λ a. then_read (field package_ref) (λ pkg. then_read (field field_name) (λ name. done (ask_s t a pkg name))))) fs)
  unfolding behind_letter question_form then_read value_of
  s-form = refl

  pub m-form : behind_letter (ascii "M") fs ≡ value_of (then_read (field type_ref) (λ t. done (ask_m t)) fs)
  unfolding behind_letter question_form then_read value_of
  m-form = refl

  pub n-form : behind_letter (ascii "N") fs
      ≡ value_of (then_read (field type_ref) (λ t. then_read (field type_ref) (λ i. then_read (field flag_bit) (λ s. done (ask_n t i s)))) fs)
  unfolding behind_letter question_form then_read value_of
  n-form = refl

  pub i-form : behind_letter (ascii "I") fs ≡ value_of (then_read (field type_ref) (λ x. then_read (field type_ref) (λ y. done (ask_i x y))) fs)
  unfolding behind_letter question_form then_read value_of
  i-form = refl

  pub c-form : behind_letter (ascii "C") fs ≡ value_of (then_read (field type_ref) (λ t. done (ask_c t)) fs)
  unfolding behind_letter question_form then_read value_of
  c-form = refl

  pub v-form : behind_letter (ascii "V") fs ≡ whole (done ask_v) fs
  unfolding behind_letter question_form
  v-form = refl

-- ---- the name of an S question

name-sized : (b : Bytes) → is_name b ≡ true → (1 ≤ length b) × (length b ≤ max_name)
unfolding is_name
name-sized b h =
    let z = and_l (sized max_name b) (not (first_is is_digit b)) (and_l (sized max_name b && not (first_is is_digit b)) (every is_name_byte b) h) in
    (leb-true 1 (length b) (and_l (leb 1 (length b)) (leb (length b) max_name) z), leb-true (length b) max_name (and_r (leb 1 (length b)) (leb (length b) max_name) z))

module _ (line : Bytes) (f : Cursor) (r : code.Option Part) (p : part_read line r ≡ field field_name (fields_left line f)) (x : Exact line r) {n : Part} (q : r ≡ Some n) where
  name-is : is_name (part line n.from n.to) ≡ true
  name-is = (passed is_name (fields_left line f) (part-on line r p q)).1

  exact : Exact line (Some n)
  exact = rw q at x

  pub name-order : n.from ≤ n.to
  name-order = exact-order line n exact

  -- its places: not empty, at most 64 bytes, within the line
  name-places : (1 ≤ n.to - n.from) × (n.to - n.from ≤ max_name)
  name-places =
      let z = name-sized (part line n.from n.to) name-is in
      let e = exact-size line n exact in
      ((rw e at z).0, (rw e at z).1)

  pub name-end : n.to ≤ length line
  name-end = let z = name-places.0 in exact-within line n exact (omega arith)

  pub s_reads : (t : TypeKey) (a : Bool) (pkg : code.Option PackageKey) → Reads line (Some (Ask.S t a pkg n.from (n.to - n.from))) (some (ask_s t a (package_meant pkg) (part line n.from n.to)))
  unfolding asks_meant NameIn bytes_at part
  s_reads t a pkg =
      let z = name-places in
      let o = name-order in
      let w = name-end in
      record { meant = refl; named = (omega arith, z.1, name-is) }
