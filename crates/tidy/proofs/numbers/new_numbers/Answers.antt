-- `new_numbers` meets its contract.
use Rattle.tidy.proofs.NumberLaws.{numbers-own, numbers-other, less_other}
use mathlib.Core.Path.{refl, sym, ap, ◌∙◌}
use native.Mathlib.Omega.{arith}
use lib.ListN.{length, length-set}
use Rattle.tidy.specs.Numbers.{own_below}
use Rattle.tidy.proofs.NumberLaws.{own-more, own_same, own-few}
use Rattle.tidy.proofs.numbers.new_numbers.Goals as goal
use Rattle.tidy.proofs.numbers.new_numbers.Goals.{then-u-t, else-u-t}

pub loop-t-init : goal.loop-t-init
loop-t-init c = (refl, unfold own_below in refl, λ k h. absurd (omega arith))

pub overflow_add-left : goal.overflow_add-left
overflow_add-left c =
    omega (arith, own-few c.args.twins.now c.loop-t.t, c.loop-t.invariant.1, c.loop-t-test.true)

pub loop-t-preserved : goal.loop-t-preserved
loop-t-preserved c =
    let lower = c.requires.2 c.loop-t.t c.loop-t-test.true in
    elim c.if-u-t.branch [
      | then-u-t w ↦ (
        ap length w.numbers-is ∙ simp length-set (omega arith),
        w.left-is ∙ rw c.loop-t.invariant.1 (sym (own-more c.args.twins.now c.loop-t.t w.if-u-t.true)),
        rw w.numbers-is (numbers-own c.args.twins.now c.loop-t.numbers c.loop-t.t _ (omega arith) c.loop-t.invariant.2 w.if-u-t.true c.loop-t.invariant.1),
      )
      | else-u-t w ↦ (
        ap length w.numbers-is ∙ simp length-set (omega arith),
        w.left-is ∙ c.loop-t.invariant.1 ∙ sym (own_same c.args.twins.now c.loop-t.t w.if-u-t.false),
        rw w.numbers-is (numbers-other c.args.twins.now c.loop-t.numbers c.loop-t.t _ (omega arith) c.loop-t.invariant.2 (less_other lower.0 w.if-u-t.false) lower.1 refl),
      )
    ]
