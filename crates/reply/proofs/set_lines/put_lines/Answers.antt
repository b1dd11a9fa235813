-- `put_lines` meets its contract: what is written and what is still to be are the whole.
use native.Mathlib.Omega.{arith}
use mathlib.Core.Path.{◌∙◌}
use Rattle.print.proofs.WrittenLaws.{wrote-length}
use Rattle.reply.proofs.Setting.{next-length, lines-wrote, all-wrote, short-at}
use Rattle.reply.proofs.set_lines.put_lines.Goals as goal

pub put_sel-end-requires : goal.put_sel-end-requires
put_sel-end-requires c =
    record { says = (short-at c.args.rows.now c.args.walk.now c.args.hits.now c.args.names.now c.loop-k.k-index c.loop-k-test.true c.requires.short, omega arith); k_in_bounds = omega (arith, next-length c.args.rows.now c.args.walk.now c.args.hits.now c.args.names.now c.loop-k.k-index c.loop-k-test.true, c.loop-k.invariant.1, c.loop-k.invariant.2, c.requires.names_in_bounds) }

pub loop-k-preserved : goal.loop-k-preserved
loop-k-preserved c = (
  c.loop-k.invariant.0 ∙ lines-wrote c.args.rows.now c.args.walk.now c.args.hits.now c.args.names.now c.loop-k.k-index c.loop-k-test.true c.put_sel-end.ensures,
  omega (arith, c.loop-k.invariant.1, next-length c.args.rows.now c.args.walk.now c.args.hits.now c.args.names.now c.loop-k.k-index c.loop-k-test.true, c.put_sel-end.ensures.past),
  wrote-length c.put_sel-end.ensures ∙ c.loop-k.invariant.2,
  c.put_sel-end.auto.numbers ∙ c.loop-k.invariant.3,
)

pub shape_of-answer : goal.shape_of-answer
shape_of-answer c = c.loop-k.invariant.2

pub shape_of-numbers : goal.shape_of-numbers
shape_of-numbers c = c.loop-k.invariant.3

pub returns : goal.returns
returns c =
    all-wrote c.args.rows.now c.args.walk.now c.args.hits.now c.args.names.now c.loop-k.k-index c.loop-k-test.false _ _ _ _ c.loop-k.invariant.0 c.loop-k.invariant.1
