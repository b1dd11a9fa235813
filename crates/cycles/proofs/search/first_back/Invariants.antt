use Prim.Native.Nat.{◌<◌}
use Rattle.objects.specs.declared.TypeKey.{TypeKey}
use Rattle.cycles.specs.Contents.{Back}
use Rattle.cycles.proofs.search.first_back.Given as goal

abbrev pub invariant-loop-t : goal.invariant-loop-t
invariant-loop-t l = (u : TypeKey) → u.0 < l.t → Back l.rows u → ⊥
