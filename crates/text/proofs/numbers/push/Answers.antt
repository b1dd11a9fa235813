-- `text::numbers::push` meets its contract. No digit, more than max already, more than max with this digit, or the number with it.
use borrow.Author.Tests.{lt-leb, le-leb}
use native.Mathlib.Omega.{arith}
use Prim.Native.Nat.{◌+◌, ◌-◌, ◌*◌, ◌≤◌, ◌<◌}
use Rattle.text.specs.Runs.{pushed}
use Rattle.text.proofs.numbers.push.Goals as goal
use Rattle.text.proofs.numbers.push.Goals.{then-b-lt48-via-then-b-lt48, then-b-lt48-via-else-b-lt48+then-b-gt57, then-b-lt48-via-else-b-lt48+else-b-gt57+then-max-v}

pub returns-then-b-lt48 : goal.returns-then-b-lt48
unfolding pushed
returns-then-b-lt48 c =
    elim c.then-b-lt48.branch [
      | then-b-lt48-via-then-b-lt48 w ↦ simp (lt-leb _ _ w.if-b-lt48.true)
      | then-b-lt48-via-else-b-lt48+then-b-gt57 w ↦ simp (le-leb _ _ w.if-b-lt48.false, lt-leb _ _ w.if-b-gt57.true)
      | then-b-lt48-via-else-b-lt48+else-b-gt57+then-max-v w ↦
          let a = c.args in
          let h : a.max < a.v * 10 + (a.b - 48) = omega arith in
          simp (le-leb _ _ w.if-b-lt48.false, le-leb _ _ w.if-b-gt57.false, lt-leb _ _ h)
    ]

pub returns-then-max-t : goal.returns-then-max-t
unfolding pushed
returns-then-max-t c =
    let a = c.args in
    let h : a.max < a.v * 10 + (a.b - 48) = omega arith in
    simp (le-leb _ _ c.if-b-lt48.false, le-leb _ _ c.if-b-gt57.false, lt-leb _ _ h)

pub returns-else-max-t : goal.returns-else-max-t
unfolding pushed
returns-else-max-t c =
    let a = c.args in
    let h : a.v * 10 + (a.b - 48) ≤ a.max = omega arith in
    simp (le-leb _ _ c.if-b-lt48.false, le-leb _ _ c.if-b-gt57.false, le-leb _ _ h)
