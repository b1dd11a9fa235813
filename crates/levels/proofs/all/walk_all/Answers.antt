-- `levels::all::walk_all` meets its contract. The invariant: the records hold the levels so far, from the type of the first row on.
use Rattle.std.proofs.Common.{rules}
use mathlib.Core.Path.{refl}
use native.Mathlib.Omega.{arith}
use Rattle.walk_rows.proofs.StateLaws.{rows-most}
use Rattle.levels.proofs.StageLaws.{staged-first, stage-begins, stage-last}
use Rattle.levels.proofs.AllLaws.{root-type, deepens-first, deepens-on, deepens-all}
use Rattle.levels.proofs.all.walk_all.Goals as goal

pub put_root-requires : goal.put_root-requires
put_root-requires c =
    (c.requires.t_bound.2, omega (arith, c.requires.t_bound.0, c.requires.t_bound.1))

pub loop-lo-init : goal.loop-lo-init
loop-lo-init c =
    let first = staged-first _ _ c.put_root.ensures.1 (omega (arith, c.put_root.ensures.0, c.requires.t_bound.1)) c.requires.t_bound.0 in
    (rw (root-type c.put_root.ensures.1) (deepens-first _ _ _ _ first), refl)

pub overflow_cast-lo : goal.overflow_cast-lo
overflow_cast-lo c =
    omega (arith, stage-begins c.loop-lo.invariant.0.staged, rows-most c.loop-lo.invariant.0.staged.state.rowed, c.loop-lo.invariant.0.staged.state.rowed.most)

pub lower-end-requires : goal.lower-end-requires
lower-end-requires c =
    record { library = c.requires.library; walked = (c.loop-lo.invariant.0.staged.state, stage-begins c.loop-lo.invariant.0.staged, stage-last c.loop-lo.invariant.0.staged) }

pub overflow_cast-lo-in-loop-lo : goal.overflow_cast-lo-in-loop-lo
overflow_cast-lo-in-loop-lo c =
    omega (arith, rows-most c.loop-lo.invariant.0.staged.state.rowed, c.loop-lo.invariant.0.staged.state.rowed.most)

pub loop-lo-smaller : goal.loop-lo-smaller
loop-lo-smaller c =
    omega (arith, rows-most c.loop-lo.invariant.0.staged.state.rowed, c.loop-lo.invariant.0.staged.state.rowed.most, c.loop-lo-test.true)

pub loop-lo-preserved : goal.loop-lo-preserved
loop-lo-preserved c =
    (deepens-on _ _ _ _ c.loop-lo.invariant.0 c.requires.library (rw (root-type c.put_root.ensures.1) c.requires.t_bound.0) c.loop-lo-test.true c.lower-end.ensures, search rules)

pub returns : goal.returns
returns c =
    let root = root-type c.put_root.ensures.1 in
    deepens-all _ _ _ _ c.loop-lo.invariant.0 c.requires.library (rw root c.requires.t_bound.0) c.loop-lo-test.false root
