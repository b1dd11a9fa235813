-- The letter of a question, and the form that it decides.
use mathlib.Core.Path.{◌≡◌, refl, sym, ap, ◌∙◌}
use mathlib.Core.Bool.{true}
use mathlib.Core.List.{List, [], ◌∷◌}
use mathlib.Core.Option.{Option, none, some}
use Prim.Native.Nat.{◌-◌, ◌≤◌, ◌<◌}
use native.Mathlib.Omega.{arith}
use lib.ListN.{length, take}
use lib.Seq.{take_all}
use borrow.Author.Tests.{le-leb, lt-leb}
use Rattle.objects.specs.Bounds.{max_question}
use Rattle.objects.specs.Lists.{Bytes}
use Rattle.objects.proofs.ListLaws.{cases}
use Rattle.text.specs.declared.Cursor.{Cursor}
use Rattle.text.specs.Bytes.{ascii, same_bytes}
use Rattle.text.specs.Lines.{fields}
use Rattle.text.specs.Readers.{◌>>=◌, field, whole}
use Rattle.text.specs.Cursors.{part, fields_left}
use Rattle.text.proofs.FieldLaws.{left-more}
use Rattle.line_forms.specs.Steps.{tried}
use Rattle.rules.specs.Question.{Question, question_form}
use Rattle.question.specs.Asks.{behind_letter, form_of}

-- the letters tried in turn
unfoldable pub lettered : List Bytes → Option Question
lettered fs =
    tried (ascii "S") fs (behind_letter (ascii "S"))
    (tried (ascii "M") fs (behind_letter (ascii "M"))
    (tried (ascii "N") fs (behind_letter (ascii "N"))
    (tried (ascii "I") fs (behind_letter (ascii "I"))
    (tried (ascii "C") fs (behind_letter (ascii "C"))
    (tried (ascii "V") fs (behind_letter (ascii "V"))
    none)))))

letters-tried : (fs : List Bytes) → whole (do l ← field some; question_form l) fs ≡ lettered fs
unfolding lettered tried behind_letter question_form
letters-tried [] = refl
letters-tried (b ∷ fs) =
    cases (same_bytes b (ascii "S")) (λ e. rw e) λ s.
    cases (same_bytes b (ascii "M")) (λ e. rw (s, e)) λ m.
    cases (same_bytes b (ascii "N")) (λ e. rw (s, m, e)) λ n.
    cases (same_bytes b (ascii "I")) (λ e. rw (s, m, n, e)) λ i.
    cases (same_bytes b (ascii "C")) (λ e. rw (s, m, n, i, e)) λ c.
    cases (same_bytes b (ascii "V")) (λ e. rw (s, m, n, i, c, e)) λ v.
    rw (s, m, n, i, c, v)

-- ---- the form

pub too-long : (line : Bytes) → max_question < length line → form_of line ≡ none
unfolding form_of
too-long line h = rw (lt-leb (length line) max_question h)

left-whole : (s : Bytes) → fields_left s (record { at = 0; end = length s; more = true }) ≡ fields s
unfolding part
left-whole s =
    let z : length s - 0 ≡ length s = omega arith in
    left-more s (record { at = 0; end = length s; more = true }) refl ∙ ap fields (ap (λ n. take n s) z ∙ take_all (length s) s (omega arith))

pub form-tried : (line : Bytes) → length line ≤ max_question → {c : Cursor} → c ≡ record { at = 0; end = length line; more = true } → form_of line ≡ lettered (fields_left line c)
unfolding form_of
form-tried line h {c} p = rw (le-leb (length line) max_question h) (letters-tried (fields line) ∙ sym (ap lettered (ap (fields_left line) p ∙ left-whole line)))
