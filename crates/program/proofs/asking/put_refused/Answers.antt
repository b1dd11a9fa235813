-- `put_refused` meets its contract: the line of a refusal always has room.
use Rattle.program.proofs.PieceLaws.{refused-shows}
use Rattle.program.proofs.asking.put_refused.Goals as goal

pub returns : goal.returns
returns c = refused-shows c.args.n c.args.line c.requires _ c.say_refused.ensures c.unwrap_or.ensures
