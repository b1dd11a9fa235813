-- `lower`: what the rows from lo up to i embed is entered.
use Rattle.std.proofs.Common.{rules}
use mathlib.Core.Path.{refl}
use native.Mathlib.Omega.{arith}
use Rattle.walk_rows.proofs.StateLaws.{rows-most}
use Rattle.walk_rows.proofs.LowerLaws.{enters-more, last_on, level-start, level-on, level-end}
use Rattle.walk_rows.proofs.lower.lower.Goals as goal

pub loop-i-init : goal.loop-i-init
loop-i-init c =
    (level-start c.args.text.now c.args.rows.now c.args.walk.now c.args.n c.args.lo c.requires.walked.0, refl)

pub overflow_cast-i-end : goal.overflow_cast-i-end
overflow_cast-i-end c =
    let most = rows-most c.requires.walked.0.rowed in
    omega arith

pub embed-end-requires : goal.embed-end-requires
embed-end-requires c =
    record { library = c.requires.library; walked = (c.loop-i.invariant.0.state, c.loop-i-test.true, enters-more _ c.loop-i.invariant.0, last_on _ c.loop-i.invariant.0 c.args.lo c.loop-i.i c.loop-i.auto.i c.requires.walked.2) }

pub loop-i-preserved : goal.loop-i-preserved
loop-i-preserved c =
    (level-on c.args.text.now c.args.rows.now c.args.walk.now c.args.n c.args.lo c.loop-i.i c.loop-i.auto.i c.loop-i-test.true c.loop-i.invariant.0 c.embed-end.ensures, search rules)

pub returns : goal.returns
returns c =
    level-end c.args.text.now c.args.rows.now c.args.walk.now c.args.n c.args.lo c.loop-i.i c.loop-i.invariant.0 (c.loop-i.auto.i-end c.requires.walked.1) c.loop-i-test.false
