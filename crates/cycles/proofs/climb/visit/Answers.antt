-- `cycles::climb::visit` meets its contract.
use native.Mathlib.Omega.{arith}
use Rattle.cycles.proofs.ContentLaws.{total-few}
use Rattle.cycles.proofs.climb.visit.Goals as goal

pub overflow_add-scratch : goal.overflow_add-scratch
overflow_add-scratch c =
    omega (arith, c.in-Some.ensures.0, total-few c.args.rows.now c.args.t c.requires.0.ranks.laid c.requires.1)
