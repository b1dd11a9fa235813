-- `objects::writers::put_row` meets its contract: what `copy_from_slice` leaves is `sets`.
use mathlib.Core.Path.{◌≡◌, sym, ap, refl, ◌∙◌}
use mathlib.Core.List.{List, ◌++◌}
use Prim.Native.Nat.{ℕ, ◌+◌, ◌-◌, ◌≤◌}
use native.Mathlib.Omega.{arith}
use lib.ListN.{length, take, drop, length-take, length-drop}
use borrow.Rule.Slice.PartMut.{put_mid}
use Rattle.std.proofs.lemmas.List.{take_all}
use Rattle.std.proofs.lemmas.List.Edits.{sets, sets-eq}
use Rattle.std.proofs.lemmas.Slice.{put_mid-paste}
use Rattle.objects.proofs.writers.put_row.Goals as goal

copied-sets : (rows row new : List ℕ) (at k : ℕ) → new ≡ row → length row ≡ k → at + k ≤ length rows → put_mid at k rows new ≡ sets rows at row
copied-sets rows row new at k e size room =
    let h : at + length row ≤ length rows = omega arith in
    let whole : take (length row) row ≡ row = take_all (length row) row (omega arith) in
    put_mid-paste at k rows new row (length row) e size refl ∙ sym (sets-eq row rows at h ∙ ap (λ x. (take at rows ++ x) ++ drop (at + length row) rows) (sym whole))

pub returns : goal.returns
returns g c =
    let k : c.args.at + g.row.WORDS - c.args.at ≡ g.row.WORDS = omega arith in
    let l : length c.args.row ≡ length (take (c.args.at + g.row.WORDS - c.args.at) (drop c.args.at c.args.rows.now)) = sym (ap length c.copy_from_slice.ensures.after) ∙ c.copy_from_slice.ensures.len in
    let h : length c.args.row ≡ g.row.WORDS = l ∙ simp (length-take, length-drop) (omega arith) in
    rw k (copied-sets c.args.rows.now c.args.row c.copy_from_slice.new.self c.args.at g.row.WORDS c.copy_from_slice.ensures.after h c.requires)
