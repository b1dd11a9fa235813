-- `clashes::clashing` meets its contract.
use native.Mathlib.Omega.{arith}
use Rattle.objects.specs.Bounds.{max_types}
use Rattle.clashes.proofs.ClashLaws.{packaged-of}
use Rattle.clashes.proofs.SeenLaws.{ready-start}
use Rattle.clashes.proofs.clashing.Goals as goal

pub first_of-requires : goal.first_of-requires
first_of-requires c =
    (c.requires.0, packaged-of c.args.text.now c.args.rows.now c.requires.1 c.requires.2, omega arith, omega arith, ready-start _ _ _ max_types)

pub returns : goal.returns
returns c = c.first_of.ensures
