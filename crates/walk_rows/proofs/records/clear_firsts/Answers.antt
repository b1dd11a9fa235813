-- `clear_firsts`: the first i types have no row.
use mathlib.Core.Path.{refl}
use Prim.Native.Nat.{◌<◌}
use native.Mathlib.Omega.{arith}
use lib.ListN.{length, length-set}
use Rattle.walk_rows.proofs.StartLaws.{cleared_more}
use Rattle.walk_rows.proofs.records.clear_firsts.Goals as goal

pub loop-i-init : goal.loop-i-init
loop-i-init c = (refl, λ t h. absurd (omega arith))

pub offset_bounds-walk-i : goal.offset_bounds-walk-i
offset_bounds-walk-i c = omega arith

pub loop-i-preserved : goal.loop-i-preserved
loop-i-preserved c =
    let inside : c.loop-i.i < length c.loop-i.walk = omega arith in
    (simp length-set c.loop-i.invariant.0, cleared_more c.loop-i.walk c.loop-i.i inside c.loop-i.invariant.1)

pub shape_of-walk : goal.shape_of-walk
shape_of-walk c = c.loop-i.invariant.0

pub returns : goal.returns
returns c = (c.loop-i.invariant.0, λ t room. c.loop-i.invariant.1 t (omega arith))
