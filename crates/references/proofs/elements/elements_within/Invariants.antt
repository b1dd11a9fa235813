use mathlib.Core.Path.{◌≡◌}
use mathlib.Core.Bool.{◌&&◌}
use lib.Dec.{ltb}
use lib.ListN.{drop}
use Rattle.objects.specs.Lists.{every}
use Rattle.references.proofs.elements.elements_within.Given as goal

abbrev pub invariant-loop-e : goal.invariant-loop-e
invariant-loop-e l =
    every (λ w. ltb w l.n) l.words ≡ l.all && every (λ w. ltb w l.n) (drop l.e-index l.words)
