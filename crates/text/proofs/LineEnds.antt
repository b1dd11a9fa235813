-- Where a line ends, and the lines of a text one after the other.
use mathlib.Core.Path.{◌≡◌, refl, sym, ap, ◌∙◌}
use mathlib.Core.Bool.{cond}
use mathlib.Core.List.{[], ◌∷◌}
use Prim.Native.Nat.{ℕ, suc, ◌+◌, ◌-◌, ◌≤◌}
use native.Mathlib.Omega.{arith}
use lib.Dec.{eqb}
use lib.ListN.{length, take, drop, length-drop}
use lib.Seq.{take_all, drop-drop}
use borrow.Author.Tests.{eqb-true, eq-eqb, ne_eqb, not-false}
use Rattle.objects.specs.Lists.{Bytes}
use Rattle.objects.proofs.ListLaws.{cases}
use Rattle.text.specs.Lines.{split, pieces}
use Rattle.text.specs.Cursors.{part, line_length, line_end}
use Rattle.text.specs.Runs.{other, run_length, run_end}
use Rattle.text.proofs.PartLaws.{drop-short}
use Rattle.text.proofs.RunLaws.{run-within, run-left, first-end, first-at}

-- the end of a run
line-length : (l : Bytes) → line_length l ≡ run_length (other 10) l
unfolding line_length run_length other
line-length [] = refl
line-length (b ∷ l) = cases (eqb b 10) (λ e. rw e) (λ e. rw (e, line-length l))

pub line-run : (s : Bytes) (from : ℕ) → line_end s from ≡ run_end (other 10) s from (length s)
unfolding line_end run_end part
line-run s from = rw (take_all (length s - from) (drop from s) (rw length-drop (omega arith)), line-length (drop from s))

-- The lines of a text from a place on: the line up to its end, and, unless the text ends there, the lines behind its newline.
pub pieces-at : (s : Bytes) (from : ℕ) → from ≤ length s
    → pieces (drop from s) ≡ part s from (line_end s from) ∷ cond (eqb (line_end s from) (length s)) [] (pieces (drop (line_end s from + 1) s))
unfolding pieces part line_end other
pieces-at s from h = rw (line-length (drop from s), z) (go (drop n (drop from s)) refl)
  where
    n : ℕ
    n = run_length (other 10) (drop from s)

    z : from + n - from ≡ n
    z = omega arith

    go : (d : Bytes) → drop n (drop from s) ≡ d → split 10 (drop from s) ≡ take n (drop from s) ∷ cond (eqb (from + n) (length s)) [] (split 10 (drop (from + n + 1) s))
    go [] q =
        let k = drop-short n (drop from s) q in
        let w = run-within (other 10) (drop from s) in
        let y = length-drop from s in
        let e : from + n ≡ length s = omega arith in
        rw (eq-eqb (from + n) (length s) e) (first-end 10 (other 10) refl (drop from s) q)
    go (b ∷ m) q =
        let e = eqb-true b 10 (not-false (eqb b 10) (run-left (other 10) (drop from s) q)) in
        let r : drop (from + n) s ≡ b ∷ m = sym (drop-drop n from s) ∙ q in
        let t : drop (from + n + 1) s ≡ m = sym (drop-drop 1 (from + n) s) ∙ ap (drop 1) r in
        let y : length s - (from + n) ≡ suc (length m) = sym (length-drop (from + n) s) ∙ ap length r in
        let x : from + n ≡ length s → ⊥ = (λ i. let j : from + n ≡ length s = i in omega arith) in
        rw (ne_eqb (from + n) (length s) x, t) (first-at 10 (other 10) refl (drop from s) (q ∙ ap (λ a. a ∷ m) e))

pub line-within : (s : Bytes) (from : ℕ) → from ≤ length s → line_end s from ≤ length s
unfolding line_end
line-within s from h =
    let w = run-within (other 10) (drop from s) in
    let y = length-drop from s in
    rw (line-length (drop from s)) (omega arith)
