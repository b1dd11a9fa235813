use Prim.Native.Nat.{◌/◌}
use native.Mathlib.Omega.{arith}
use Rattle.pair_marks.proofs.Bits.{meet-fits, meet-is}
use Rattle.pair_marks.proofs.marks.set_met.Goals as goal

pub overflow_add-marks : goal.overflow_add-marks
overflow_add-marks c =
    record { fits = meet-fits c.args.marks.now c.args.p c.requires.1 (omega (arith, c.slice_known-1.given (c.args.p / 32))) }

pub returns : goal.returns
returns c = meet-is _ _
