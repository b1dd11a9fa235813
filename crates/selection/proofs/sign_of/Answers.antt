-- `selection::sign_of` meets its contract.
use Rattle.selection.proofs.FindLaws.{asked-sign}
use Rattle.selection.proofs.sign_of.Goals as goal

pub returns : goal.returns
returns c = asked-sign _ c.args.q c.span.ensures c.hash.ensures.value
