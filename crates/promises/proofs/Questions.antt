-- Texts of questions: which questions a text has, line by line, and that the program reads them behind a table that loads.
use mathlib.Core.Path.{◌≡◌, refl, ap}
use mathlib.Core.Bool.{true, false, cond}
use mathlib.Core.List.{List, [], ◌∷◌, ◌++◌, append_assoc, append-nil}
use mathlib.Core.Logic.{inl, inr}
use mathlib.Core.Option.{none}
use Prim.Native.Nat.{ℕ, suc}
use native.Mathlib.Omega.{arith}
use lib.Dec.{eqb, ltb}
use lib.ListN.{length}
use borrow.Author.Tests.{eqb-true}
use Rattle.objects.specs.Bounds.{max_text, bounds}
use Rattle.objects.specs.Lists.{Bytes, In, empty, flat}
use Rattle.objects.specs.Table.{Table, no_table}
use Rattle.objects.proofs.ListLaws.{cases, any_append}
use Rattle.text.specs.Bytes.{ascii, same_bytes}
use Rattle.text.specs.Lines.{split, pieces, fields}
use Rattle.text.proofs.ByteLaws.{same_true}
use Rattle.text.proofs.LineLaws.{Free, split_at, split-end, split-first}
use Rattle.rules.specs.Forms.{line_form, line_of}
use Rattle.rules.specs.Load.{Loaded, refused, loaded, line_added, lines_from, then_checked, headed, load_within, load}
use Rattle.rules.specs.AskedAll.{question_lines}
use Rattle.rules.specs.Typeask.{put_line, input_of}

-- ---- line by line

-- one line more, whatever follows it
line_first : (l rest : Bytes) → Free 10 l → question_lines (l ++ (10 ∷ rest)) ≡ l ∷ question_lines rest
unfolding question_lines pieces
line_first l rest h = let r = split-first 10 rest in rw (split_at 10 l rest h, r.2)

pub by-line : (lines : List Bytes) (last : Bytes) → ((l : Bytes) → In l lines → Free 10 l) → Free 10 last → question_lines (flat (λ l. l ++ (10 ∷ [])) lines ++ last) ≡ lines ++ cond (empty last) [] (last ∷ [])
unfolding question_lines pieces
by-line [] last free h = rw (split-end 10 last h)
by-line (l ∷ lines) last free h =
    let rest = flat (λ k. k ++ (10 ∷ [])) lines in
    rw (append_assoc (l ++ (10 ∷ [])) rest last, append_assoc l (10 ∷ []) (rest ++ last), line_first l (rest ++ last) (free l (inl refl)))
    (ap (λ ls. l ∷ ls) (by-line lines last (λ k i. free k (inr i)) h))

-- ---- behind a table

-- the lines of a table: none is `Q`, and each has its newline
abbrev NoQ : List Bytes → Type 0
NoQ [] = Unit {0}
NoQ (last ∷ []) = last ≡ []
NoQ (line ∷ next ∷ rest) = (same_bytes line (ascii "Q") ≡ false) × NoQ (next ∷ rest)

-- `Q` has no form of a table's line
q-formless : line_of (fields (ascii "Q")) ≡ none
unfolding line_of line_form fields split
q-formless = refl

not-loaded : {C : Type 0} {n line : ℕ} {T : Table} → refused n line ≡ loaded T → C
not-loaded e = let z : ◌≡◌ {A = ℕ} 0 1 = cc in absurd (omega arith)

lines-no-q : (line : ℕ) (T : Table) (ps : List Bytes) (U : Table) → lines_from bounds line T ps ≡ loaded U → NoQ ps
unfolding lines_from
lines-no-q line T [] U e = tt
lines-no-q line T ([] ∷ []) U e = refl
lines-no-q line T ((x ∷ last) ∷ []) U e = not-loaded e
lines-no-q line T (piece ∷ next ∷ rest) U e = (cases (same_bytes piece (ascii "Q")) is-q (λ q. q), go (line_added bounds T line (line_of (fields piece))) e (λ W. lines-no-q (suc line) W (next ∷ rest) U))
  where
    is-q : same_bytes piece (ascii "Q") ≡ true → same_bytes piece (ascii "Q") ≡ false
    is-q q = let same : piece ≡ ascii "Q" = same_true piece (ascii "Q") q in let f : refused 4 line ≡ loaded U = rw (same, lines_from, q-formless) at e in not-loaded f

    go : (L : Loaded) → elim L [ refused n at ↦ refused n at | loaded W ↦ lines_from bounds (suc line) W (next ∷ rest) ] ≡ loaded U
        → ((W : Table) → lines_from bounds (suc line) W (next ∷ rest) ≡ loaded U → NoQ (next ∷ rest)) → NoQ (next ∷ rest)
    go (refused n at) f on = not-loaded f
    go (loaded W) f on = on W f

-- a table that loads has such lines
loads-no-q : (text : Bytes) (T : Table) → load text ≡ loaded T → NoQ (pieces text)
unfolding load_within
loads-no-q text T e = cases (ltb max_text (length text)) (λ h. let f : refused 2 0 ≡ loaded T = rw h at e in not-loaded f) (λ h. heads (pieces text) (rw h at e))
  where
    checks : (L : Loaded) → then_checked L ≡ loaded T → (U : Table) × (L ≡ loaded U)
    checks (refused n line) f = not-loaded f
    checks (loaded U) f = (U, refl)

    heads : (ps : List Bytes) → headed bounds ps ≡ loaded T → NoQ ps
    heads [] f = not-loaded f
    heads (first ∷ []) f = not-loaded f
    heads (first ∷ next ∷ rest) f =
        cases (same_bytes first (ascii "typetable\t1"))
        (λ h. let same = same_true first (ascii "typetable\t1") h in let r = checks (lines_from bounds 2 no_table (next ∷ rest)) (rw h at f) in (rw same, lines-no-q 2 no_table (next ∷ rest) r.0 r.1))
        (λ h. let g : refused 3 1 ≡ loaded T = rw h at f in not-loaded g)

-- one line more
no-q-next : (l s : Bytes) → NoQ (l ∷ split 10 s) → (same_bytes l (ascii "Q") ≡ false) × NoQ (split 10 s)
no-q-next l s n = let r = split-first 10 s in rw r.2 (rw r.2 at n)

input-next : (l s : Bytes) → same_bytes l (ascii "Q") ≡ false → input_of (l ∷ split 10 s) ≡ put_line l (input_of (split 10 s))
unfolding input_of
input-next l s e = let r = split-first 10 s in rw (r.2, input_of, e)

module _ (questions : Bytes) where
  abbrev behind : Bytes
  behind = ascii "Q\n" ++ questions

  -- l is what was read of a line
  reads_on : (l table : Bytes) → Free 10 l → NoQ (split 10 (l ++ table)) → input_of (split 10 (l ++ (table ++ behind))) ≡ record { table = l ++ table; questions = question_lines questions }
  unfolding input_of question_lines pieces
  reads_on l [] free n =
      let none_left : l ≡ [] = rw (append-nil l, split-end 10 l free) at n in
      let r = split-first 10 questions in
      rw (none_left, split_at 10 (ascii "Q") questions refl, r.2)
  reads_on l (x ∷ table) free n =
      cases (eqb x 10)
      (λ e. let newline : x ≡ 10 = eqb-true x 10 e in
      let k = no-q-next l table (rw (newline, split_at 10 l table free) at n) in
      rw (newline, split_at 10 l (table ++ behind) free, input-next l (table ++ behind) k.0) (ap (put_line l) (reads_on [] table refl k.1)))
      (λ e. let on : Free 10 (l ++ (x ∷ [])) = rw (any_append (λ b. eqb b 10) l (x ∷ []), free, e) in
      let joins = append_assoc l (x ∷ []) in
      rw (← joins (table ++ behind), ← joins table) (reads_on (l ++ (x ∷ [])) table on (rw (← joins table) at n)))

  pub behind-table : (table : Bytes) (T : Table) → load table ≡ loaded T → input_of (pieces (table ++ behind)) ≡ record { table = table; questions = question_lines questions }
  unfolding pieces
  behind-table table T loads = reads_on [] table refl (loads-no-q table T loads)
