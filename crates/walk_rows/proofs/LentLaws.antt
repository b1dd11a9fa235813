-- The records of a level are lent, and the first of a type among them is marked.
use mathlib.Core.Path.{◌≡◌, sym, ap, ◌∙◌}
use mathlib.Core.List.{List}
use Prim.Native.Nat.{ℕ, ◌+◌, ◌-◌, ◌≤◌, ◌<◌}
use native.Mathlib.Omega.{arith}
use lib.ListN.{length, get_or, take, drop, set, length-take, length-drop}
use lib.Seq.{get_or-take, get_or-drop}
use borrow.Rule.Slice.PartMut.{put_mid, set_mid_at}
use Rattle.objects.specs.declared.TypeKey.{TypeKey}
use Rattle.multiples.specs.Records.{Record, empty, marked, consolidated}
use Rattle.multiples.proofs.MarkLaws.{marked-first}
use Rattle.walk_rows.specs.Records.{record_at, row_of, rows_of}
use Rattle.walk_rows.specs.State.{times_in}
use Rattle.walk_rows.proofs.RecordLaws.{row_type, mark_put}
use Rattle.walk_rows.proofs.ListLaws.{one-first}
use Rattle.walk_rows.proofs.StateLaws.{rows-length, rows_at}

module _ (walk : List Record) (from n i : ℕ) (a : from ≤ i) (b : i < n) where
  abbrev rest : List Record
  rest = drop from walk

  part_at : (j : ℕ) → j < n - from → get_or (take (n - from) rest) j empty ≡ record_at walk (from + j)
  part_at j l = get_or-take (n - from) rest j empty l ∙ get_or-drop from walk j empty

  -- THE ONE RECORD OF A TYPE IS MARKED, and nothing else changes.
  pub part-marked : n ≤ length walk → (t : TypeKey) → (row_of walk i).type ≡ t → times_in walk n t ≡ 1 → put_mid from (n - from) walk (consolidated (take (n - from) rest) t) ≡ mark_put walk i
  unfolding times_in
  part-marked long t e one =
      let part = take (n - from) rest in
      let at : from + (i - from) ≡ i = omega arith in
      let here : get_or part (i - from) empty ≡ record_at walk i = part_at (i - from) (omega arith) ∙ ap (record_at walk) at in
      let inside : i - from < length part = rw (length-take (n - from) rest, length-drop from walk) (omega arith) in
      let before : (j : ℕ) → j < i - from → (get_or part j empty).typ ≡ t → ⊥ = λ j l q. one-first t (rows_of walk n) i (from + j) one (omega arith) (rw (rows-length walk n) b)
      (rw (rows_at walk n i b) e)
      (rw (rows_at walk n (from + j) (omega arith)) (row_type walk (from + j) ∙ ap (λ (r : Record). r.typ) (sym (part_at j (omega arith))) ∙ q)) in
      let first = marked-first part (i - from) t inside before (ap (λ (r : Record). r.typ) here ∙ sym (row_type walk i) ∙ e) in
      ap (put_mid from (n - from) walk) (sym first ∙ ap (λ r. set part (i - from) (marked r)) here) ∙ set_mid_at from (n - from) (i - from) walk (marked (record_at walk i)) inside ∙ ap (λ k. set walk k (marked (record_at walk i))) at
