-- `keep_methods` meets its contract.
use mathlib.Core.Path.{◌≡◌}
use lib.ListN.{length}
use Rattle.method_set.specs.Sets.{in_set}
use Rattle.method_set.proofs.KeepLaws.{Keeping}
use Rattle.method_set.proofs.keep_methods.Given as goal

abbrev pub invariant-loop-i : goal.invariant-loop-i
invariant-loop-i l =
    (length l.names ≡ length l.initial.names) × Keeping (in_set l.rows l.walk l.hits) l.initial.names l.names l.r l.i
