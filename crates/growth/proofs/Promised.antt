-- DEMAND 3, ONE CLAIM ABOUT TWO LIBRARIES: whatever was added, the answers of S and N to an old question that is put again keep the promise of
-- specs/Promise.antt (`grown`), and they are what the two calls say (`grown-calls`).
use mathlib.Core.Path.{◌≡◌, refl, sym, ap, ◌∙◌}
use mathlib.Core.Bool.{Bool, true, false, not}
use mathlib.Core.Option.{Option, none, some}
use Prim.Native.Nat.{ℕ, ◌≤◌, ◌<◌}
use lib.Dec.{leb, eqb}
use lib.ListN.{length}
use borrow.Author.Tests.{ltb-true, le-ltb}
use Rattle.objects.specs.Bounds.{max_question, work_words}
use Rattle.objects.specs.Lists.{Bytes}
use Rattle.objects.proofs.ListLaws.{cases, clash, and_l, and_r}
use Rattle.objects.specs.declared.TypeKey.{TypeKey}
use Rattle.objects.specs.declared.PackageKey.{PackageKey}
use Rattle.objects.specs.Table.{Table, size, has_type, has_package}
use Rattle.text.specs.Lines.{fields}
use Rattle.text.specs.Readers.{◌>>=◌, field, whole}
use Rattle.rules.specs.Load.{load, loaded}
use Rattle.rules.specs.Sound.{Sound}
use Rattle.rules.proofs.Sounds.{loads-sound}
use Rattle.rules.specs.Question.{Question, ask_s, ask_m, ask_n, ask_i, ask_c, ask_v, question_form, in_table, known, question_of}
use Rattle.rules.specs.Answer.{answer, answer_bytes, selected_bytes}
use Rattle.rules.specs.Asked.{Outcome, say, wrong_second, on_table, outcome_within, outcome, number_of, written, given, asked_within}
use Rattle.growth.specs.Grown.{Numbers, Grown, GrownTexts}
use Rattle.growth.specs.Promise.{Shortest, carry_selected, new_way, old_name, new_name, old_answer, Promised}
use Rattle.edits.specs.Carried.{carry_question}
use Rattle.growth.specs.Calls.{put_again, Lent, called, answers_with, old_bytes, new_bytes, PutAgain, Said}
use Rattle.growth.proofs.GrowKinds.{kind-kept}
use Rattle.growth.proofs.GrowSelect.{promise-S}
use Rattle.growth.proofs.GrowMissing.{promise-N}

in-range : (T : Table) (t : TypeKey) → has_type T t ≡ true → t.0 < size T
in-range T t h = ltb-true t.0 (size T) h

module _ (n : Numbers) (A B : Table) (sound_a : Sound A) (sound_b : Sound B) (g : Grown n A B) where
  pub promised : (q : Question) → in_table A q ≡ true → Promised n A B q
  promised (ask_s t a pkg name) h = promise-S n A B sound_a sound_b g t (in-range A t (and_l (has_type A t) (has_package A pkg) h)) a pkg name (and_r (has_type A t) (has_package A pkg) h)
  promised (ask_m t) h = tt
  promised (ask_c t) h = tt
  promised (ask_n t i s) h = promise-N n A B sound_a sound_b g t (in-range A t (and_l (has_type A t) (has_type A i) h)) s i (in-range A i (and_r (has_type A t) (has_type A i) h))
  promised (ask_i x y) h = tt
  promised ask_v h = tt

  second-kept : (q : Question) → in_table A q ≡ true → wrong_second B (carry_question n.ty n.pk q) ≡ wrong_second A q
  second-kept (ask_s t a pkg name) h = refl
  second-kept (ask_m t) h = refl
  second-kept (ask_c t) h = refl
  second-kept (ask_n t i s) h = ap (λ k. not (eqb k 9)) (kind-kept n A B sound_a g i (in-range A i (and_r (has_type A t) (has_type A i) h)))
  second-kept (ask_i x y) h = refl
  second-kept ask_v h = refl

-- ---- the call

abbrev has_question : Option Question → Bool
has_question none = false
has_question (some q) = true

-- a question that a line asks has the table's numbers
pub asked_in : (T : Table) (line : Bytes) (q : Question) → question_of T line ≡ some q → in_table T q ≡ true
unfolding question_of
asked_in T line q e =
    cases (leb (length line) max_question)
    (λ z. go (whole (do l ← field some; question_form l) (fields line)) (rw z at e))
    (λ z. clash refl (ap has_question (sym (rw z at e))))
  where
    from : Question → Option Question → Question
    from d none = d
    from d (some p) = p

    go : (o : Option Question) → known T o ≡ some q → in_table T q ≡ true
    go none h = clash refl (ap has_question (sym h))
    go (some p) h = cases (in_table T p) (λ z. let same : p ≡ q = ap (from p) (rw z at h) in ap (in_table T) (sym same) ∙ z) (λ z. clash refl (ap has_question (sym (rw z at h))))

pub outcome-says : (text line : Bytes) (room : ℕ) (T : Table) (q : Question) → load text ≡ loaded T → question_of T line ≡ some q → wrong_second T q ≡ false → length (answer_bytes (answer T q)) ≤ room
    → outcome text line room ≡ say (answer_bytes (answer T q))
unfolding outcome_within on_table
outcome-says text line room T q l e s f = rw (l, on_table, e, s, le-ltb room (length (answer_bytes (answer T q))) f)

-- an outcome that is an answer, with words enough
pub given-says : (o : Outcome) (bytes : Bytes) (c : Lent) → o ≡ say bytes → work_words ≤ length c.work → given o c.buffer c.work ≡ answers_with bytes c
unfolding number_of written
given-says o bytes c e w = rw (le-ltb (length c.work) work_words w, e)

pub call-says : (text bytes : Bytes) (c : Lent) → outcome text c.line (length c.buffer) ≡ say bytes → work_words ≤ length c.work → called text c ≡ answers_with bytes c
unfolding asked_within
call-says text bytes c = given-says (outcome text c.line (length c.buffer)) bytes c

-- ---- THE THEOREM

module _ (a b : Bytes) (g : GrownTexts a b) where
  old_sound : Sound g.old
  old_sound = loads-sound a g.old g.old_loads

  new_sound : Sound g.new
  new_sound = loads-sound b g.new g.new_loads

  -- THE GROWTH PROMISE, of the answers that the rules give to every old question
  pub grown : (q : Question) → in_table g.old q ≡ true → Promised g.numbers g.old g.new q
  grown = promised g.numbers g.old g.new old_sound new_sound g.grown

  -- THE GROWTH PROMISE, of what the two calls say
  pub grown-calls : (q : Question) (old new : Lent) → PutAgain g q old new → Said g q old new
  grown-calls q old new put =
      let i = asked_in g.old old.line q put.asks in
      let before = outcome-says a old.line (length old.buffer) g.old q g.old_loads put.asks put.second put.fits in
      let after = outcome-says b new.line (length new.buffer) g.new (put_again g q) g.new_loads put.asks_again
      (second-kept g.numbers g.old g.new old_sound new_sound g.grown q i ∙ put.second) put.fits_again in
      record {
        outcome_before = before;
        outcome_after = after;
        before = call-says a (old_bytes g q) old before put.words;
        after = call-says b (new_bytes g q) new after put.words_again;
        promised = grown q i;
      }

  -- where no new way is as short as the old one or shorter, the second call says the old answer with the member's new number
  pub same-said : (t : TypeKey) (addressable : Bool) (pkg : Option PackageKey) (name : Bytes) (old new : Lent) (d : ℕ)
      → PutAgain g (ask_s t addressable pkg name) old new
      → Shortest g.old (old_name g.numbers g.old g.new t addressable pkg name) t d
      → ((j : ℕ) → j ≤ d → new_way g.numbers g.old g.new (new_name g.numbers g.old g.new t addressable pkg name) t j ≡ false)
      → called b new ≡ answers_with (selected_bytes (carry_selected g.numbers (old_answer g.numbers g.old g.new t addressable pkg name))) new
  unfolding answer answer_bytes
  same-said t addressable pkg name old new d put shortest none-new =
      let said = grown-calls (ask_s t addressable pkg name) old new put in
      said.after ∙ ap (λ r. answers_with (selected_bytes r) new) (said.promised.same d shortest none-new)
