-- `packages::unordered` meets its contract: up to package p the paths ascend, and what 14 finds is what it finds from p on.
use mathlib.Core.Path.{◌≡◌}
use Rattle.objects.specs.Rows.{table_of}
use Rattle.rules.specs.Stages.{first_unordered}
use Rattle.rules.proofs.PathLaws.{found_from}
use Rattle.packages.proofs.unordered.Given as goal

abbrev pub invariant-loop-p : goal.invariant-loop-p
invariant-loop-p l =
    first_unordered (table_of l.text l.rows).packages ≡ found_from (table_of l.text l.rows).packages l.p
