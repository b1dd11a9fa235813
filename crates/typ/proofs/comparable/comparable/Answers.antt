use Prim.Native.Nat.{◌-◌}
use native.Mathlib.Omega.{arith}
use lib.Seq.{length-take-le}
use Rattle.pair_marks.proofs.Zero.{zero-front, front-back}
use Rattle.typ.proofs.comparable.comparable.Goals as goal

pub judge-requires : goal.judge-requires
judge-requires c =
    let n = c.type_count-types.result - 0 in
    record { library = c.requires.library; t_bound = (c.requires.t_bound.0, omega (arith, length-take-le n c.args.met.now (omega arith))); met_value = zero-front n _ c.requires.met_value }

pub returns : goal.returns
returns c =
    let n = c.type_count-types.result - 0 in
    record { value = c.judge.ensures.value; met_unchanged = front-back n _ _ c.judge.ensures.met_unchanged }
