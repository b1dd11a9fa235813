-- One line said, or too long for the buffer: what each return of the code says.
use mathlib.Core.Path.{◌≡◌, sym, ap, subst, ◌∙◌}
use mathlib.Core.Bool.{Bool, true, false}
use mathlib.Core.List.{[], ◌∷◌}
use Prim.Native.Nat.{ℕ, ◌≤◌, ◌<◌}
use native.Mathlib.Omega.{arith}
use lib.ListN.{length}
use borrow.Author.Tests.{lt-ltb, le-ltb}
use Rattle.std.specs.Prelude.{Result, Ok, Err}
use Rattle.objects.specs.declared.refusals.Refusal.{Refusal}
use Rattle.objects.specs.Refusals.{reason_number}
use Rattle.objects.specs.Lists.{Bytes}
use Rattle.text.specs.Bytes.{ascii}
use Rattle.rules.specs.Answer.{says, counts, answer_bytes}
use Rattle.rules.specs.Asked.{Outcome, refuse, say, fitted, written}
use Rattle.print.specs.Written.{number_line, Wrote}
use Rattle.print.proofs.WrittenLaws.{written-answer}
use Rattle.print.proofs.Lines.{yes-line, no_line, ok-line}
use Rattle.reply.specs.declared.Unsaid.{Unsaid}
use Rattle.reply.specs.Done.{Done, done_meant, done_of, Does}

-- ---- refused or said

pub does-refuse : {o : Outcome} (r : Refusal) (buffer : Bytes) → o ≡ refuse (reason_number r.reason) r.line → Does o (Err (Unsaid.Refused r)) buffer buffer
unfolding done_of done_meant written
does-refuse r buffer e = record { told = sym (ap (done_of (length buffer)) e); answer = sym (ap (λ x. written (fitted (length buffer) x) buffer) e) }

-- the same, in other words
pub does-as : {o u : Outcome} {r : Result ℕ Unsaid} {before after : Bytes} → o ≡ u → Does o r before after → Does u r before after
does-as {r = r} {before = before} {after = after} e d = subst (λ z. Does z r before after) e d

module _ (before bytes : Bytes) {size : ℕ} (p : size ≡ length bytes) where
  pub too-long : length before < size → Does (say bytes) (Err (Unsaid.Long size)) before before
  unfolding done_of done_meant written
  too-long h =
      let k = lt-ltb (length before) (length bytes) (omega (arith, p, h)) in
      record { told = ap Done.Long p ∙ (rw k); answer = rw k }

  pub fits_said : size ≤ length before → {after : Bytes} {r : ℕ} → Wrote before 0 bytes after r → Does (say bytes) (Ok r) before after
  unfolding done_of done_meant written
  fits_said h {r = r} w =
      let room : length bytes ≤ length before = omega (arith, p, h) in
      let k = le-ltb (length before) (length bytes) room in
      let l : r ≡ length bytes = omega (arith, w.past) in
      record { told = ap Done.Said l ∙ (rw k); answer = w.text ∙ written-answer before bytes room ∙ (rw k) }

-- ---- the lines

module _ (before : Bytes) {after : Bytes} {r : Result ℕ Unsaid} where
  pub said-as : {a b : Bytes} → a ≡ b → Does (say b) r before after → Does (say a) r before after
  said-as e d = does-as (ap say (sym e)) d

  pub yes-said : {b : Bool} → b ≡ true → Does (say (number_line (ascii "yes") [])) r before after → Does (say (answer_bytes (says b))) r before after
  yes-said e d = said-as (ap (λ b. answer_bytes (says b)) e ∙ yes-line) d

  pub no-said : {b : Bool} → b ≡ false → Does (say (number_line (ascii "no") [])) r before after → Does (say (answer_bytes (says b))) r before after
  no-said e d = said-as (ap (λ b. answer_bytes (says b)) e ∙ no_line) d

  pub counts-said : {p t m p' t' m' : ℕ} → p ≡ p' → t ≡ t' → m ≡ m' → Does (say (number_line (ascii "ok") (p ∷ t ∷ m ∷ []))) r before after
      → Does (say (answer_bytes (counts p' t' m'))) r before after
  counts-said {p} {t} {m} {p'} {t'} {m'} e f g d = said-as {b = number_line (ascii "ok") (p ∷ t ∷ m ∷ [])} (ok-line p' t' m' ∙ (rw (e, f, g))) d
