-- `cycles::climb::rest` meets its contract.
use native.Mathlib.Omega.{arith}
use Rattle.cycles.proofs.climb.rest.Goals as goal

pub climb_all-requires : goal.climb_all-requires
climb_all-requires c = (c.requires, omega arith)

pub returns : goal.returns
returns c = c.climb_all.ensures
