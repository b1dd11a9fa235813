-- `say` meets its contract: refused by 13, or one line written.
use native.Mathlib.Omega.{arith}
use lib.ListN.{take}
use Rattle.print.specs.Written.{number_line}
use Rattle.reply.proofs.Saying.{too-long, fits_said}
use Rattle.reply.proofs.one_line.say.Goals as goal

pub returns-then-answer-size : goal.returns-then-answer-size
returns-then-answer-size c =
    too-long _ (number_line c.args.word.now (take c.args.n c.args.ns.now)) c.line_length-size.ensures c.if-answer-size.true

pub put_line-end-requires : goal.put_line-end-requires
put_line-end-requires c = (omega arith, omega (arith, c.line_length-size.ensures, c.if-answer-size.false))

pub returns : goal.returns
returns c =
    fits_said _ (number_line c.args.word.now (take c.args.n c.args.ns.now)) c.line_length-size.ensures c.if-answer-size.false c.put_line-end.ensures
