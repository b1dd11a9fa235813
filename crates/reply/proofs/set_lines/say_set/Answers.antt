-- `say_set` meets its contract: refused by 13 before anything is written, or all lines.
use native.Mathlib.Omega.{arith}
use mathlib.Core.List.{[], ◌∷◌}
use lib.ListN.{length, take}
use Rattle.text.specs.Bytes.{ascii}
use Rattle.print.proofs.LineLaws.{line-short}
use Rattle.reply.proofs.Setting.{set_long, set-said}
use Rattle.reply.proofs.set_lines.say_set.Goals as goal

pub overflow_add-size : goal.overflow_add-size
overflow_add-size c =
    omega (arith, c.line_length-head.ensures, c.total_length-rest.ensures.1, line-short (ascii "set") (length (take c.args.n c.args.names.now) ∷ []) 1 (omega arith) (omega arith))

pub returns-then-answer-size : goal.returns-then-answer-size
returns-then-answer-size c =
    set_long c.args.rows.now c.args.walk.now c.args.hits.now (take c.args.n c.args.names.now) _ c.line_length-head.ensures c.total_length-rest.ensures.0 c.if-answer-size.true

pub returns : goal.returns
returns c =
    set-said c.args.rows.now c.args.walk.now c.args.hits.now (take c.args.n c.args.names.now) _ c.line_length-head.ensures c.total_length-rest.ensures.0 c.if-answer-size.false c.put_line-at.ensures c.put_lines-end.ensures
