-- `question::question` meets its contract: the form, then the numbers.
use Rattle.objects.specs.Rows.{table_of}
use Rattle.question.proofs.KnownLaws.{known-wrong, question-on, question-out}
use Rattle.question.proofs.question.Goals as goal

pub returns-then-known : goal.returns-then-known
returns-then-known c =
    record { reads = λ text. question-on (table_of text c.args.rows.now) c.args.line.now _ c.parse-a.ensures (λ q h. c.known.ensures.value text c.args.line.now q h) c.if-known.true; known = c.known.ensures.known c.if-known.true }

pub returns-else-known : goal.returns-else-known
returns-else-known c =
    record { reads = λ text. question-out (table_of text c.args.rows.now) c.args.line.now _ c.parse-a.ensures (λ q h. c.known.ensures.value text c.args.line.now q h) c.if-known.false; known = known-wrong c.args.rows.now }
