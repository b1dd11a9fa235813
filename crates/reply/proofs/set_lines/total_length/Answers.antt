-- `total_length` meets its contract: what is counted and what is left are the whole.
use native.Mathlib.Omega.{arith}
use mathlib.Core.Path.{◌∙◌}
use Rattle.reply.proofs.Setting.{next-length, end-length, short-at}
use Rattle.reply.proofs.set_lines.total_length.Goals as goal

pub sel_length-total-requires : goal.sel_length-total-requires
sel_length-total-requires c =
    (short-at c.args.rows.now c.args.walk.now c.args.hits.now c.args.names.now c.loop-k.k-index c.loop-k-test.true c.requires.short, omega arith)

pub loop-k-preserved : goal.loop-k-preserved
loop-k-preserved c = (
  omega (arith, c.loop-k.invariant.0, next-length c.args.rows.now c.args.walk.now c.args.hits.now c.args.names.now c.loop-k.k-index c.loop-k-test.true, c.sel_length-total.ensures.0),
  omega arith,
  c.sel_length-total.auto.numbers ∙ c.loop-k.invariant.2,
)

pub returns : goal.returns
returns c =
    (omega (arith, c.loop-k.invariant.0, end-length c.args.rows.now c.args.walk.now c.args.hits.now c.args.names.now c.loop-k.k-index c.loop-k-test.false), omega arith)
