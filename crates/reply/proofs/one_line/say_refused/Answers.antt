-- `say_refused` meets its contract: the line of a refusal is a word and two numbers.
use Rattle.print.proofs.Lines.{refused-line}
use Rattle.reply.proofs.Saying.{said-as}
use Rattle.reply.proofs.one_line.say_refused.Goals as goal

pub returns : goal.returns
returns c =
    said-as _ (refused-line c.args.n c.args.line) c.say.ensures
