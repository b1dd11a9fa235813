use mathlib.Core.Path.{◌≡◌}
use Prim.Native.Nat.{suc, ◌-◌}
use lib.ListN.{length}
use Rattle.objects.specs.Rows.{type_count}
use Rattle.cycles.proofs.RankLaws.{Peeling}
use Rattle.cycles.proofs.ranks.peel.Given as goal

abbrev pub invariant-loop-last : goal.invariant-loop-last
invariant-loop-last l = (length l.rows ≡ length l.initial.rows) × Peeling l.initial.rows l.last l.next l.rows

abbrev pub decreases-loop-last : goal.decreases-loop-last
decreases-loop-last l = suc (suc (type_count l.initial.rows)) - l.last
