-- `keep_methods` meets its contract.
use mathlib.Core.Path.{refl, sym, ap, ◌∙◌}
use Prim.Native.Nat.{◌<◌}
use native.Mathlib.Omega.{arith}
use lib.ListN.{length, length-set}
use Rattle.method_set.proofs.KeepLaws.{keeping_start, keeping-read, keeping-yes, keeping-no, keeping-end}
use Rattle.method_set.proofs.keep_methods.Goals as goal
use Rattle.method_set.proofs.keep_methods.Goals.{then-in_set, else-in_set}

pub loop-i-init : goal.loop-i-init
loop-i-init c = (refl, keeping_start _ _)

pub in_set-requires : goal.in_set-requires
in_set-requires c =
    c.requires.room _ (keeping-read _ _ _ c.loop-i.r c.loop-i.i c.loop-i.invariant.0 (omega (arith, c.requires.n_in_bounds)) c.loop-i.invariant.1 c.args.n c.loop-i-test.true)

pub bounds-names-r : goal.bounds-names-r
bounds-names-r c = omega arith

pub loop-i-preserved : goal.loop-i-preserved
loop-i-preserved c =
    let inside : c.loop-i.i < length c.args.names.now = omega (arith, c.requires.n_in_bounds, c.loop-i-test.true) in
    elim c.if-in_set.branch [
      | then-in_set w ↦ (
        ap length w.names-is ∙ length-set c.loop-i.names c.loop-i.r _ ∙ c.loop-i.invariant.0,
        keeping-yes _ _ _ _ _ c.loop-i.invariant.0 inside c.loop-i.invariant.1 (sym c.in_set.ensures ∙ w.if-in_set.true) w.names-is w.r-is,
      )
      | else-in_set w ↦ (
        ap length w.names-is ∙ c.loop-i.invariant.0,
        keeping-no _ _ _ _ _ c.loop-i.invariant.0 inside c.loop-i.invariant.1 (sym c.in_set.ensures ∙ w.if-in_set.false) w.names-is w.r-is,
      )
    ]

pub returns : goal.returns
returns c = keeping-end _ _ _ _ _ _ c.loop-i.invariant.1 c.loop-i.auto.i-end c.loop-i-test.false
