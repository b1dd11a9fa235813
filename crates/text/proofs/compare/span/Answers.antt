-- `text::compare::span` meets its contract.
use Rattle.text.proofs.CompareLaws.{span-is}
use Rattle.text.proofs.compare.span.Goals as goal

pub returns : goal.returns
returns c = span-is c.args.s.now c.args.at c.args.n c.min-from.ensures c.min.ensures
