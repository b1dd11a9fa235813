-- From the answers that a buffer holds to what is printed: the next piece of what is due, and piece after piece up to the end.
use mathlib.Core.Path.{◌≡◌, refl, sym, ap, ap₂, subst, ◌∙◌}
use mathlib.Core.List.{List, [], ◌∷◌, ◌++◌, append_assoc, append-nil}
use Prim.Native.Nat.{ℕ, ◌+◌, ◌*◌, ◌-◌, ◌≤◌, ◌<◌}
use native.Mathlib.Omega.{arith}
use lib.ListN.{length, take, drop, length-append, length-drop}
use lib.Seq.{take_at, drop-drop, length-take-le}
use borrow.Author.Tests.{lt-ltb, le-ltb}
use Rattle.objects.specs.Bounds.{max_text, program_answer}
use Rattle.std.specs.Prelude.{Option, Some, None, Result, Ok, Err}
use Rattle.std.specs.Result.{result_unwrap_or}
use Rattle.objects.specs.Lists.{Bytes, flat}
use Rattle.objects.specs.Table.{Table}
use Rattle.objects.proofs.ListLaws.{flat_append}
use Rattle.text.specs.Bytes.{ascii}
use Rattle.text.specs.Cursors.{part}
use Rattle.rules.specs.Asked.{Outcome, refuse, say, fitted, replied}
use Rattle.rules.specs.AskedAll.{question_lines, refused_bytes, printed, reply_bytes}
use Rattle.rules.specs.Typeask.{printed_one}
use Rattle.print.proofs.Lines.{refused-line}
use Rattle.print.proofs.LineLaws.{line-length, end_short}
use Rattle.reply.specs.declared.Unsaid.{Unsaid}
use Rattle.reply.specs.Done.{Does}
use Rattle.input.specs.Parts.{questions_at, next_meant, next_within, Follows}
use Rattle.replies.specs.declared.Filled.{Filled}
use Rattle.replies.specs.Replies.{Full, Fills}
use Rattle.replies.proofs.Replying.{said-is, unsaid-is}
use Rattle.replies.proofs.Filling.{out-length}
use Rattle.program.specs.Steps.{refused_room, due, Shows, Prints, Stands}
use Rattle.program.proofs.OpenLaws.{part-rest}

-- ---- the line of a refusal

module _ (n line : ℕ) where
  short : length (refused_bytes n line) ≤ refused_room
  short = omega (arith, ap length (refused-line n line), line-length (ascii "refused") (n ∷ line ∷ []), end_short (n ∷ line ∷ []))

  pub refused-shows : {out after : Bytes} → refused_room ≤ length out → (r : Result ℕ Unsaid) → Does (say (refused_bytes n line)) r out after
      → {k : ℕ} → k ≡ result_unwrap_or r 0 → Shows (refused_bytes n line) after k
  refused-shows {out} room (Ok m) d {k} e =
      let is = said-is d refl in
      record {
        fits = omega (arith, e, is.0, ap length is.2, length-append (refused_bytes n line) (drop (length (refused_bytes n line)) out));
        shown = ap (take k) is.2 ∙ take_at (refused_bytes n line) (drop (length (refused_bytes n line)) out) k (sym (e ∙ is.0));
      }
  refused-shows room (Err u) d e = let is = unsaid-is d u refl in absurd (omega (arith, short, is.0))

pub shows-length : {text out : Bytes} {n : ℕ} → Shows text out n → n ≡ length text
shows-length {out = out} {n = n} s = sym (length-take-le n out s.fits) ∙ ap length s.shown

-- ---- one question: its answer if it fits, and 13 if it alone is longer

fits-printed : (room : ℕ) (o : Outcome) → length (printed o) ≤ room → printed (fitted room o) ≡ printed o
fits-printed room (refuse n line) h = refl
fits-printed room (say bytes) h = rw (le-ltb room (length bytes) h)

long-printed : (o : Outcome) → program_answer < length (printed o) → printed (fitted program_answer o) ≡ refused_bytes 13 0
long-printed (refuse n line) h = absurd (omega (arith, short n line, h))
long-printed (say bytes) h = rw (lt-ltb program_answer (length bytes) h)

module _ (T : Table) where
  one-fits : (q : Bytes) → length (reply_bytes T q) ≤ program_answer → printed_one T q ≡ reply_bytes T q
  unfolding printed_one reply_bytes
  one-fits q h = fits-printed program_answer (replied q T) h

  one-long : (q : Bytes) → program_answer < length (reply_bytes T q) → printed_one T q ≡ refused_bytes 13 0
  unfolding printed_one reply_bytes
  one-long q h = long-printed (replied q T) h

  all_fit : (qs : List Bytes) → length (flat (reply_bytes T) qs) ≤ program_answer → flat (printed_one T) qs ≡ flat (reply_bytes T) qs
  all_fit [] h = refl
  all_fit (q ∷ qs) h =
      let both = length-append (reply_bytes T q) (flat (reply_bytes T) qs) in
      ap₂ (λ a b. a ++ b) (one-fits q (omega (arith, h, both))) (all_fit qs (omega (arith, h, both)))

-- ---- the next piece

no_line : (l : List Bytes) → length l ≡ 0 → l ≡ []
no_line [] e = refl
no_line (x ∷ l) e = absurd (omega (arith, e))

module _ (T : Table) (questions before : Bytes) (room : length before ≡ program_answer) {r : Filled} {out : Bytes} (h : Fills T questions before r out) where
  abbrev done : List Bytes
  done = h.filling.done

  made-fits : length (flat (reply_bytes T) done) ≤ program_answer
  made-fits = omega (arith, room, h.filling.count, h.filling.room)

  pub made-length : length out ≡ program_answer
  made-length = out-length T questions before h.filling ∙ room

  in-front : take r.n out ≡ flat (printed_one T) done
  in-front =
      ap (take r.n) h.filling.answers
      ∙ take_at (flat (reply_bytes T) done) (drop r.n before) r.n (sym h.filling.count)
      ∙ sym (all_fit T done made-fits)

  made-parts : due T questions ≡ take r.n out ++ due T (drop r.at questions)
  unfolding due questions_at
  made-parts =
      ap (flat (printed_one T)) h.filling.lines
      ∙ flat_append (printed_one T) done (questions_at questions r.at)
      ∙ ap (λ f. f ++ flat (printed_one T) (questions_at questions r.at)) (sym in-front)

  -- some answers, or none where none is due
  made-prints : (r.at ≡ 0 → due T questions ≡ []) → Prints T questions r out
  made-prints none = record {
    inside = h.filling.inside;
    fits = omega (arith, room, made-length, h.filling.room);
    parts = made-parts;
    none = none;
  }

  pub some-printed : 0 < r.at → Prints T questions r out
  some-printed l = made-prints (λ e. absurd (omega (arith, l, e)))

  module _ {x : Option (ℕ × ℕ)} (d : Follows questions 0 x) where
    pub none-printed : x ≡ None → Prints T questions r out
    unfolding due questions_at next_meant
    none-printed e = made-prints (λ z. ap (flat (printed_one T)) (d.says ∙ ap (next_meant questions 0) e))

    -- no question has room: the answer to the first alone is longer than the buffer
    module _ (stays : r.at ≡ 0) {end next : ℕ} (e : x ≡ Some (end, next)) where
      abbrev first : Bytes
      first = part questions 0 end

      lines : question_lines questions ≡ first ∷ questions_at questions next
      unfolding questions_at next_meant
      lines = d.says ∙ ap (next_meant questions 0) e

      none_made : r.n ≡ 0
      unfolding questions_at
      none_made =
          let same : question_lines questions ≡ done ++ question_lines questions = h.filling.lines ∙ ap (λ k. done ++ questions_at questions k) stays in
          let none : done ≡ [] = no_line done (omega (arith, ap length same, length-append done (question_lines questions))) in
          h.filling.count ∙ ap (λ l. length (flat (reply_bytes T) l)) none

      first-long : program_answer < length (reply_bytes T first)
      unfolding questions_at Full
      first-long =
          let at_first : questions_at questions r.at ≡ first ∷ questions_at questions next = ap (questions_at questions) stays ∙ lines in
          let full : length before < r.n + length (reply_bytes T first) = subst (λ l. Full T l r.n (length before)) at_first h.full in
          omega (arith, room, none_made, full)

      pub refused-printed : {n : ℕ} {after : Bytes} → Shows (refused_bytes 13 0) after n → Prints T questions (record { at = next; n = n }) after
      unfolding due questions_at
      refused-printed s =
          let within : next_within questions 0 (Some (end, next)) = subst (next_within questions 0) e d.within in
          record {
            inside = within.3;
            fits = s.fits;
            parts = ap (flat (printed_one T)) lines ∙ ap (λ p. p ++ flat (printed_one T) (questions_at questions next)) (one-long T first first-long ∙ sym s.shown);
            none = λ z. absurd (omega (arith, within.2, z));
          }

-- ---- piece after piece

-- What is due is so many bytes, and what is due for the questions from a place on. The bytes are at most program_answer for each byte of the questions up to it.
pub record Reached (T : Table) (questions : Bytes) (at total : ℕ) : Type 0 where
  pub inside : at ≤ length questions
  pub bytes : Bytes
  pub place : length bytes ≡ total
  pub parts : due T questions ≡ bytes ++ due T (drop at questions)
  pub few : total ≤ at * program_answer

module _ (T : Table) (questions : Bytes) where
  unfoldable pub none-reached : Reached T questions 0 0
  none-reached = record { inside = omega arith; bytes = []; place = refl; parts = refl; few = omega arith }

  module _ {at total : ℕ} (h : Reached T questions at total) {r : Filled} {out : Bytes} (p : Prints T (take (length questions - at) (drop at questions)) r out) where
    pub rest-printed : Prints T (drop at questions) r out
    rest-printed = subst (λ q. Prints T q r out) (part-rest questions at) p

    -- the end
    pub all-reached : r.at ≡ 0 → total ≡ length (due T questions)
    all-reached e =
        let none : due T (drop at questions) ≡ [] = rest-printed.none e in
        omega (arith, h.place, ap length h.parts, length-append h.bytes (due T (drop at questions)), ap length none)

    pub all-bytes : r.at ≡ 0 → h.bytes ≡ due T questions
    all-bytes e =
        let none : due T (drop at questions) ≡ [] = rest-printed.none e in
        sym (h.parts ∙ ap (λ d. h.bytes ++ d) none ∙ append-nil h.bytes)

    pub behind : due T questions ≡ h.bytes ++ (take r.n out ++ due T (drop (at + r.at) questions))
    behind = h.parts ∙ ap (λ d. h.bytes ++ d) (rest-printed.parts ∙ ap (λ q. take r.n out ++ due T q) (drop-drop r.at at questions))

    pub piece-stands : Stands (due T questions) total (take r.n out)
    piece-stands = record { before = h.bytes; behind = due T (drop (at + r.at) questions); place = h.place; parts = behind }

    pub next-inside : at + r.at ≤ length questions
    next-inside = let i = h.inside in omega (arith, rest-printed.inside, length-drop at questions)

    module _ (room : length out ≡ program_answer) (on : 0 < r.at) where
      pub next-few : total + r.n ≤ (at + r.at) * program_answer
      next-few = omega (arith, h.few, rest-printed.fits, room, on)

      unfoldable pub next-reached : (k : ℕ) → k ≡ total + r.n → Reached T questions (at + r.at) k
      next-reached k e = record {
        inside = next-inside;
        bytes = h.bytes ++ take r.n out;
        place = omega (arith, e, length-append h.bytes (take r.n out), h.place, length-take-le r.n out rest-printed.fits);
        parts = behind ∙ sym (append_assoc h.bytes (take r.n out) (due T (drop (at + r.at) questions)));
        few = omega (arith, e, next-few);
      }

      pub next-within : length questions ≤ max_text → total + r.n ≤ max_text * program_answer
      next-within most = omega (arith, next-few, next-inside, most)
