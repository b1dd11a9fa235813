-- From the parts of the input and the loaded table to all that is due.
use mathlib.Core.Path.{◌≡◌, refl, sym, ap, ap₂, subst, ◌∙◌}
use mathlib.Core.List.{[], ◌∷◌}
use Prim.Native.Nat.{ℕ, ◌-◌, ◌≤◌, ◌<◌}
use native.Mathlib.Omega.{arith}
use lib.ListN.{length, take, drop, length-drop}
use lib.Seq.{take_all}
use borrow.Author.Tests.{lt-ltb, le-ltb}
use Rattle.objects.specs.Bounds.{max_text, bounds}
use Rattle.std.specs.Prelude.{Option, Some, None, Result, Ok, Err}
use Rattle.objects.specs.declared.refusals.Reason.{Reason}
use Rattle.objects.specs.declared.refusals.Refusal.{Refusal}
use Rattle.objects.specs.Refusals.{reason_number}
use Rattle.objects.specs.Lists.{Bytes, flat}
use Rattle.objects.specs.Rows.{Words, table_of}
use Rattle.text.specs.Bytes.{ascii}
use Rattle.text.specs.Lines.{split, pieces}
use Rattle.rules.specs.Load.{refused, load}
use Rattle.rules.specs.Library.{Library}
use Rattle.rules.specs.AskedAll.{question_lines}
use Rattle.rules.specs.Typeask.{input_of, printed_one, printed_all, answered_all, typeask_within, typeask}
use Rattle.table.specs.Loading.{loading_meant, Loads}
use Rattle.input.specs.Parts.{questions_at, parts_meant}
use Rattle.program.specs.Steps.{due, opening_meant, Opens}

-- ---- the parts of the input as slices

-- from 0 on up to a place
part-front : (s : Bytes) (end : ℕ) → take (end - 0) (drop 0 s) ≡ take end s
part-front s end = let z : end - 0 ≡ end = omega arith in rw z

pub library-part : (s : Bytes) (end : ℕ) (rows : Words) → Library (take end s) rows → Library (take (end - 0) (drop 0 s)) rows
library-part s end rows l = subst (λ t. Library t rows) (sym (part-front s end)) l

-- from a place on
pub part-rest : (s : Bytes) (next : ℕ) → take (length s - next) (drop next s) ≡ drop next s
part-rest s next = take_all (length s - next) (drop next s) (omega (arith, length-drop next s))

pub rest-short : (s : Bytes) (next : ℕ) → length s ≤ max_text → length (take (length s - next) (drop next s)) ≤ max_text
rest-short s next h = omega (arith, ap length (part-rest s next), length-drop next s)

pub due-parts : (s : Bytes) (end : ℕ) (rows : Words) (next : ℕ)
    → due (table_of (take end s) rows) (drop next s) ≡ due (table_of (take (end - 0) (drop 0 s)) rows) (take (length s - next) (drop next s))
due-parts s end rows next = ap₂ (λ t q. due (table_of t rows) q) (sym (part-front s end)) (sym (part-rest s next))

-- ---- what is due

-- one V
due-v : (text : Bytes) (rows : Words) → flat (printed_one (table_of text rows)) (ascii "V" ∷ []) ≡ due (table_of text rows) (ascii "V")
unfolding due question_lines pieces split
due-v text rows = refl

-- what loading said
loads-refused : (text : Bytes) (rows : Words) {r : Result (Unit {0}) Refusal} {x : Refusal} → Loads text r rows → r ≡ Err x → load text ≡ refused (reason_number x.reason) x.line
unfolding loading_meant
loads-refused text rows l q = sym l.says ∙ ap (loading_meant text rows) q

module _ (s : Bytes) where
  -- "at most 32,768 bytes in all" (65,536 by document 02, point 4), "otherwise it prints refusal 2"
  pub opens-long : (rows : Words) → max_text < length s → Opens s (Err (record { reason = Reason.TextLong; line = 0 })) rows
  unfolding opening_meant typeask_within
  opens-long rows h = record { says = rw (lt-ltb max_text (length s) h); holds = tt }

  module _ (short : length s ≤ max_text) where
    parted : (i : Option (ℕ × ℕ)) → input_of (pieces s) ≡ parts_meant s i → typeask s ≡ answered_all bounds (parts_meant s i)
    unfolding typeask_within
    parted i e = rw (le-ltb max_text (length s) short, e)

    module _ (e : input_of (pieces s) ≡ parts_meant s None) (rows : Words) {r : Result (Unit {0}) Refusal} (l : Loads s r rows) where
      pub whole-refused : {x : Refusal} → r ≡ Err x → Opens s (Err x) rows
      unfolding opening_meant parts_meant
      whole-refused q = record { says = parted None e ∙ ap (λ d. printed_all d (ascii "V" ∷ [])) (loads-refused s rows l q); holds = tt }

      pub whole-loaded : r ≡ Ok tt → Opens s (Ok None) rows
      unfolding opening_meant parts_meant
      whole-loaded q =
          let lib = l.holds q in
          record { says = parted None e ∙ ap (λ d. printed_all d (ascii "V" ∷ [])) lib.loads ∙ due-v s rows; holds = lib }

    module _ (end next : ℕ) (a : end ≤ length s) (b : next ≤ length s) (e : input_of (pieces s) ≡ parts_meant s (Some (end, next))) (rows : Words) {r : Result (Unit {0}) Refusal} (l : Loads (take (end - 0) (drop 0 s)) r rows) where
      loads-table : Loads (take end s) r rows
      loads-table = subst (λ t. Loads t r rows) (part-front s end) l

      pub until-refused : {x : Refusal} → r ≡ Err x → Opens s (Err x) rows
      unfolding opening_meant parts_meant
      until-refused q = record { says = parted (Some (end, next)) e ∙ ap (λ d. printed_all d (questions_at s next)) (loads-refused (take end s) rows loads-table q); holds = tt }

      pub until-loaded : r ≡ Ok tt → Opens s (Ok (Some (end, next))) rows
      unfolding opening_meant parts_meant due questions_at
      until-loaded q =
          let lib = loads-table.holds q in
          record { says = parted (Some (end, next)) e ∙ ap (λ d. printed_all d (questions_at s next)) lib.loads; holds = (a, b, lib, short) }
