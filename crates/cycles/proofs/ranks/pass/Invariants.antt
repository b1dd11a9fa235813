use mathlib.Core.Path.{◌≡◌}
use lib.ListN.{length}
use Rattle.cycles.specs.Ranking.{Passing}
use Rattle.cycles.proofs.ranks.pass.Given as goal

abbrev pub invariant-loop-t : goal.invariant-loop-t
invariant-loop-t l =
    (length l.rows ≡ length l.initial.rows) × Passing l.initial.rows l.next l.t l.rows l.after
