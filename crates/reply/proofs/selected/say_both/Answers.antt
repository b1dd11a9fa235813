-- `say_both` meets its contract: refused by 13 before anything is written, or both lines.
use native.Mathlib.Omega.{arith}
use lib.ListN.{take}
use Rattle.text.specs.Bytes.{ascii}
use Rattle.print.specs.Written.{number_line}
use Rattle.print.proofs.LineLaws.{line-short}
use Rattle.reply.proofs.Members.{both_long, both-said}
use Rattle.reply.proofs.selected.say_both.Goals as goal

pub overflow_add-size : goal.overflow_add-size
overflow_add-size c =
    omega (arith, c.line_length-head.ensures, c.line_length-rest.ensures, line-short (ascii "ambiguous") c.args.first.now c.args.n (omega arith) (omega arith), line-short (ascii "and") c.args.second.now c.args.n (omega arith) (omega arith))

pub returns-then-answer-size : goal.returns-then-answer-size
returns-then-answer-size c =
    both_long _ (number_line (ascii "ambiguous") (take c.args.n c.args.first.now)) (number_line (ascii "and") (take c.args.n c.args.second.now)) c.line_length-head.ensures c.line_length-rest.ensures c.if-answer-size.true

pub returns : goal.returns
returns c =
    both-said _ (number_line (ascii "ambiguous") (take c.args.n c.args.first.now)) (number_line (ascii "and") (take c.args.n c.args.second.now)) c.line_length-head.ensures c.line_length-rest.ensures c.if-answer-size.false c.put_line-at.ensures c.put_line-end.ensures
