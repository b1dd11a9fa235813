-- The input line by line: the table up to the line `Q`, and the questions behind it.
use mathlib.Core.Path.{◌≡◌, refl, sym, ap, ◌∙◌}
use mathlib.Core.Bool.{Bool, true, false, cond}
use mathlib.Core.List.{List, [], ◌∷◌, ◌++◌, append_assoc, append-nil}
use Prim.Native.Nat.{ℕ, zero, suc, ◌+◌, ◌-◌, ◌≤◌, ◌<◌}
use native.Mathlib.Numerals.{add-one}
use native.Mathlib.Nat.{not-suc-le-zero}
use native.Mathlib.Omega.{arith}
use lib.Dec.{eqb}
use lib.ListN.{length, get_or, take, drop, length-drop, length-take, take-append-drop, drop_of_length-le}
use lib.Seq.{take_all, take-nil, take-suc, drop-drop, drop-cons}
use borrow.Author.Tests.{eqb-true, eq-eqb, ne_eqb, not-false}
use Rattle.std.specs.Prelude.{Some, None}
use Rattle.objects.specs.Lists.{Bytes}
use Rattle.text.specs.Bytes.{ascii, same_bytes}
use Rattle.text.specs.Lines.{split, pieces}
use Rattle.text.specs.Cursors.{part, line_end}
use Rattle.text.specs.Runs.{other, run_length, run_end}
use Rattle.text.proofs.LineLaws.{split-first}
use Rattle.text.proofs.LineEnds.{line-run, pieces-at, line-within}
use Rattle.text.proofs.RunLaws.{run-left}
use Rattle.rules.specs.AskedAll.{questions_of, question_lines}
use Rattle.rules.specs.Typeask.{Input, input_of, put_line}
use Rattle.input.specs.Parts.{questions_at, parts_meant, next_meant}

-- bytes in front of the table
unfoldable pub front : Bytes → Input → Input
front l i = record { table = l ++ i.table; questions = i.questions }

take-add : (a b : ℕ) (s : Bytes) → take (a + b) s ≡ take a s ++ take b (drop a s)
take-add zero b s = let z : 0 + b ≡ b = omega arith in rw z
take-add (suc a) b [] = take-nil (suc a + b) ∙ sym (take-nil b)
take-add (suc a) b (x ∷ s) = let z : suc a + b ≡ suc (a + b) = omega arith in rw z (ap (λ l. x ∷ l) (take-add a b s))

pieces-first : (s : Bytes) → (x : Bytes) × (rest : List Bytes) × (pieces s ≡ x ∷ rest)
unfolding pieces
pieces-first s = split-first 10 s

-- what input_of makes of one line more
module _ (line x : Bytes) (rest : List Bytes) where
  input-until : same_bytes line (ascii "Q") ≡ true → input_of (line ∷ x ∷ rest) ≡ record { table = []; questions = questions_of (x ∷ rest) }
  unfolding input_of
  input-until e = rw (input_of, e)

  input-on : same_bytes line (ascii "Q") ≡ false → input_of (line ∷ x ∷ rest) ≡ put_line line (input_of (x ∷ rest))
  unfolding input_of
  input-on e = rw (input_of, e)

pub input-start : (s : Bytes) → input_of (pieces s) ≡ front (take 0 s) (input_of (pieces (drop 0 s)))
unfolding front
input-start s = refl

-- what stands behind the last newline is a question unless it is empty
last_some : (l : Bytes) → 0 < length l → questions_of (l ∷ []) ≡ l ∷ []
last_some [] h = absurd (not-suc-le-zero h)
last_some (x ∷ l) h = refl

-- the line that begins at a place and ends at another
module _ (s : Bytes) (at : ℕ) (within : at ≤ length s) {end : ℕ} (p : end ≡ line_end s at) where
  piece-here : pieces (drop at s) ≡ part s at end ∷ cond (eqb end (length s)) [] (pieces (drop (end + 1) s))
  piece-here = rw p (pieces-at s at within)

  pub end-within : end ≤ length s
  end-within = rw p (line-within s at within)

  pub end-behind : at ≤ end
  unfolding line_end
  end-behind = omega arith

  part-last : end ≡ length s → part s at end ≡ drop at s
  unfolding part
  part-last e = take_all (end - at) (drop at s) (rw length-drop (omega arith))

  -- the last line
  piece-last : end ≡ length s → pieces (drop at s) ≡ part s at end ∷ []
  piece-last e = piece-here ∙ ap (λ t. part s at end ∷ cond t [] (pieces (drop (end + 1) s))) (eq-eqb end (length s) e)

  -- a line that has its newline
  piece-on : (end ≡ length s → ⊥) → pieces (drop at s) ≡ part s at end ∷ pieces (drop (end + 1) s)
  piece-on n = piece-here ∙ ap (λ t. part s at end ∷ cond t [] (pieces (drop (end + 1) s))) (ne_eqb end (length s) n)

  newline : end < length s → get_or s end 0 ≡ 10
  unfolding run_end part other
  newline h =
      let n = run_length (other 10) (drop at s) in
      let a : take (length s - at) (drop at s) ≡ drop at s = take_all (length s - at) (drop at s) (rw length-drop (omega arith)) in
      let r : end ≡ at + n = p ∙ line-run s at ∙ ap (λ l. at + run_length (other 10) l) a in
      let d : drop n (drop at s) ≡ get_or s end 0 ∷ drop (suc end) s = drop-drop n at s ∙ ap (λ k. drop k s) (sym r) ∙ drop-cons s end 0 h in
      eqb-true (get_or s end 0) 10 (not-false (eqb (get_or s end 0) 10) (run-left (other 10) (drop at s) d))

  -- the table so far, with this line
  take-line : end < length s → take (end + 1) s ≡ take at s ++ (part s at end ++ (10 ∷ []))
  unfolding part
  take-line h =
      let b = end-behind in
      let z : at + (end - at) ≡ end = omega arith in
      let t : take end s ≡ take at s ++ take (end - at) (drop at s) = ap (λ k. take k s) (sym z) ∙ take-add at (end - at) s in
      rw (add-one end, take-suc s end 0 h, newline h, t, append_assoc (take at s) (take (end - at) (drop at s)) (10 ∷ []))

  -- ---- the ways through `split`

  pub split-whole : end ≡ length s → front (take at s) (input_of (pieces (drop at s))) ≡ parts_meant s None
  unfolding front input_of parts_meant
  split-whole e =
      let t : take at s ++ part s at end ≡ s = ap (λ l. take at s ++ l) (part-last e) ∙ take-append-drop at s in
      rw (piece-last e, t)

  module _ (n : end ≡ length s → ⊥) {t : Bool} (q : t ≡ same_bytes (part s at end) (ascii "Q")) where
    pub split-until : t ≡ true → front (take at s) (input_of (pieces (drop at s))) ≡ parts_meant s (Some (at, end + 1))
    unfolding front parts_meant questions_at question_lines
    split-until e =
        let r = pieces-first (drop (end + 1) s) in
        rw (piece-on n, r.2, input-until (part s at end) r.0 r.1 (sym q ∙ e), append-nil (take at s))

    pub split-on : t ≡ false → front (take at s) (input_of (pieces (drop at s))) ≡ front (take (end + 1) s) (input_of (pieces (drop (end + 1) s)))
    unfolding front
    split-on e =
        let r = pieces-first (drop (end + 1) s) in
        let w = end-within in
        let i = input_of (pieces (drop (end + 1) s)) in
        let a : input_of (pieces (drop at s)) ≡ put_line (part s at end) i =
        ap input_of (piece-on n ∙ ap (λ l. part s at end ∷ l) r.2) ∙ input-on (part s at end) r.0 r.1 (sym q ∙ e) ∙ ap (λ l. put_line (part s at end) (input_of l)) (sym r.2) in
        let h : end < length s = less in
        let b : take at s ++ (part s at end ++ (10 ∷ i.table)) ≡ take (end + 1) s ++ i.table =
        sym (rw (take-line h, append_assoc (take at s) (part s at end ++ (10 ∷ [])) i.table, append_assoc (part s at end) (10 ∷ []) i.table)) in
        ap (front (take at s)) a ∙ ap (λ l. record { table = l; questions = i.questions }) b
      where
        less : end < length s
        less = let w = end-within in omega (arith, n)

  -- ---- the ways through `next_question`

  pub next-on : end < length s → questions_at s at ≡ next_meant s at (Some (end, end + 1))
  unfolding questions_at question_lines next_meant
  next-on h =
      let r = pieces-first (drop (end + 1) s) in
      rw (piece-on (λ i. let j : end ≡ length s = i in omega arith), r.2)

  part-some : at < end → 0 < length (part s at end)
  unfolding part
  part-some l = let w = end-within in rw (length-take, length-drop) (omega arith)

  pub next_last : length s ≤ end → at < end → questions_at s at ≡ next_meant s at (Some (end, end))
  unfolding questions_at question_lines next_meant pieces split
  next_last h l =
      let w = end-within in
      let e : end ≡ length s = omega arith in
      ap questions_of (piece-last e) ∙ last_some (part s at end) (part-some l) ∙ sym (ap (λ d. part s at end ∷ questions_of (split 10 d)) (drop_of_length-le s h))

  pub next-none : length s ≤ end → end ≤ at → questions_at s at ≡ next_meant s at None
  unfolding questions_at question_lines next_meant
  next-none h l =
      let w = end-within in
      let e : end ≡ length s = omega arith in
      let k : length s ≤ at = omega arith in
      let d : drop at s ≡ [] = drop_of_length-le s k in
      rw (piece-last e, part-last e, d)
