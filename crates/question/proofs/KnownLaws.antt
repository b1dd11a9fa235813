-- The numbers of a question that the table has.
use mathlib.Core.Path.{◌≡◌, refl, sym, ap, ap₂, ◌∙◌}
use mathlib.Core.Bool.{Bool, true, false, not, ◌&&◌}
use mathlib.Core.Option.{Option, none, some}
use Prim.Native.Nat.{◌<◌}
use lib.Dec.{eqb, ltb, leb}
use lib.ListN.{length}
use borrow.Author.Tests.{ltb-true}
use Rattle.objects.specs.declared.TypeKey.{TypeKey}
use Rattle.std.specs.declared.option.Option as code
use Rattle.std.specs.Prelude.{Some, None}
use Rattle.objects.specs.declared.PackageKey.{PackageKey}
use Rattle.objects.specs.Bounds.{max_question}
use Rattle.objects.specs.Lists.{Bytes}
use Rattle.objects.specs.Rows.{Words, type_count, package_meant, bytes_at, table_of}
use Rattle.objects.specs.Table.{Table, has_type, has_package}
use Rattle.objects.proofs.ListLaws.{cases, and_l, and_r}
use Rattle.objects.proofs.RowLaws.{size-read, package-count-read, number-read}
use Rattle.text.proofs.AnswerLaws.{none-some}
use Rattle.rules.specs.Question.{Question, ask_s, ask_m, ask_n, ask_i, ask_c, ask_v, in_table, known, question_of}
use Rattle.rules.specs.Asked.{wrong_second}
use Rattle.question.specs.declared.Ask.{Ask}
use Rattle.question.specs.Asks.{asks_meant, form_of, package_known, known_read, Known, second_read, Reads}
use Rattle.question.proofs.FormLaws.{reads_at, wrong-reads}

module _ (text : Bytes) (rows : Words) where
  pub type-has : (t : TypeKey) → has_type (table_of text rows) t ≡ ltb t.0 (type_count rows)
  type-has t = ap (ltb t.0) (size-read text rows)

  pub package-has : (pkg : code.Option PackageKey) → has_package (table_of text rows) (package_meant pkg) ≡ package_known rows pkg
  unfolding package_meant package_known
  package-has None = refl
  package-has (Some p) = ap (ltb p.0) (package-count-read text rows)

-- ---- what was read has these numbers, whatever the text is

module _ (text : Bytes) (rows : Words) (line : Bytes) where
  pub known_is : (a : code.Option Ask) (q : Question) → asks_meant line a ≡ some q → known_read rows a ≡ in_table (table_of text rows) q
  unfolding asks_meant known_read
  known_is (Some (Ask.S t b pkg at len)) q h =
      let z : ask_s t b (package_meant pkg) (bytes_at line at len) ≡ q = cc in
      ap₂ (λ x y. x && y) (sym (type-has text rows t)) (sym (package-has text rows pkg)) ∙ ap (in_table (table_of text rows)) z
  known_is (Some (Ask.M t)) q h = let z : ask_m t ≡ q = cc in sym (type-has text rows t) ∙ ap (in_table (table_of text rows)) z
  known_is (Some (Ask.N t i s)) q h =
      let z : ask_n t i s ≡ q = cc in
      ap₂ (λ x y. x && y) (sym (type-has text rows t)) (sym (type-has text rows i)) ∙ ap (in_table (table_of text rows)) z
  known_is (Some (Ask.I x y)) q h =
      let z : ask_i x y ≡ q = cc in
      ap₂ (λ x y. x && y) (sym (type-has text rows x)) (sym (type-has text rows y)) ∙ ap (in_table (table_of text rows)) z
  known_is (Some (Ask.C t)) q h = let z : ask_c t ≡ q = cc in sym (type-has text rows t) ∙ ap (in_table (table_of text rows)) z
  known_is (Some Ask.V) q h = let z : ask_v ≡ q = cc in ap (in_table (table_of text rows)) z
  known_is None q h = none-some h

  pub second_is : (a : code.Option Ask) (q : Question) → Known rows a → asks_meant line a ≡ some q → second_read rows a ≡ wrong_second (table_of text rows) q
  unfolding asks_meant second_read Known
  second_is (Some (Ask.S t b pkg at len)) q k h = let z : ask_s t b (package_meant pkg) (bytes_at line at len) ≡ q = cc in ap (wrong_second (table_of text rows)) z
  second_is (Some (Ask.M t)) q k h = let z : ask_m t ≡ q = cc in ap (wrong_second (table_of text rows)) z
  second_is (Some (Ask.N t i s)) q k h =
      let z : ask_n t i s ≡ q = cc in
      ap (λ n. not (eqb n 9)) (sym (number-read text rows i k.1)) ∙ ap (wrong_second (table_of text rows)) z
  second_is (Some (Ask.I x y)) q k h = let z : ask_i x y ≡ q = cc in ap (wrong_second (table_of text rows)) z
  second_is (Some (Ask.C t)) q k h = let z : ask_c t ≡ q = cc in ap (wrong_second (table_of text rows)) z
  second_is (Some Ask.V) q k h = let z : ask_v ≡ q = cc in ap (wrong_second (table_of text rows)) z
  second_is None q k h = none-some h

module _ (rows : Words) where
  -- only an N question has a second type that must be an interface
  pub second_none : (a : Ask) → ((t i : TypeKey) (s : Bool) → a ≡ Ask.N t i s → ⊥) → false ≡ second_read rows (Some a)
  unfolding second_read
  second_none (Ask.S t b pkg at len) h = refl
  second_none (Ask.M t) h = refl
  second_none (Ask.N t i s) h = absurd (h t i s refl)
  second_none (Ask.I x y) h = refl
  second_none (Ask.C t) h = refl
  second_none Ask.V h = refl

  both : (t u : TypeKey) → ltb t.0 (type_count rows) && ltb u.0 (type_count rows) ≡ true → (t.0 < type_count rows) × (u.0 < type_count rows)
  both t u h = (ltb-true _ _ (and_l (ltb t.0 (type_count rows)) (ltb u.0 (type_count rows)) h), ltb-true _ _ (and_r (ltb t.0 (type_count rows)) (ltb u.0 (type_count rows)) h))

  pub known_facts : (a : code.Option Ask) → known_read rows a ≡ true → Known rows a
  unfolding known_read Known
  known_facts (Some (Ask.S t b pkg at len)) h = (ltb-true _ _ (and_l (ltb t.0 (type_count rows)) (package_known rows pkg) h), and_r (ltb t.0 (type_count rows)) (package_known rows pkg) h)
  known_facts (Some (Ask.M t)) h = ltb-true _ _ h
  known_facts (Some (Ask.N t i s)) h = both t i h
  known_facts (Some (Ask.I x y)) h = both x y h
  known_facts (Some (Ask.C t)) h = ltb-true _ _ h
  known_facts (Some Ask.V) h = tt
  known_facts None h = tt

  pub known-wrong : Known rows None
  unfolding Known
  known-wrong = tt

-- ---- refusal 11

form-known : (T : Table) (line : Bytes) → question_of T line ≡ known T (form_of line)
unfolding question_of form_of
form-known T line = cases (leb (length line) max_question) (λ e. rw e) (λ e. rw e)

-- t: the numbers are the table's
module _ (T : Table) (line : Bytes) (a : code.Option Ask) (h : Reads line a (form_of line)) {t : Bool} (p : (q : Question) → asks_meant line a ≡ some q → t ≡ in_table T q) where
  pub question-on : t ≡ true → Reads line a (question_of T line)
  question-on e = reads_at (form-known T line ∙ go (form_of line) refl) h
    where
      go : (o : Option Question) → form_of line ≡ o → known T (form_of line) ≡ form_of line
      go none f = rw f
      go (some q) f = let z : in_table T q ≡ true = sym (p q (h.meant ∙ f)) ∙ e in rw (f, z)

  pub question-out : t ≡ false → Reads line None (question_of T line)
  question-out e = wrong-reads line (form-known T line ∙ go (form_of line) refl)
    where
      go : (o : Option Question) → form_of line ≡ o → known T (form_of line) ≡ none
      go none f = rw f
      go (some q) f = let z : in_table T q ≡ false = sym (p q (h.meant ∙ f)) ∙ e in rw (f, z)
