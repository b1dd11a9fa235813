-- `first_hits::names::put_name` meets its contract.
use Rattle.std.proofs.Common.{rules}
use Rattle.first_hits.proofs.SortedParts.{within-gone, gone-put}
use Rattle.first_hits.proofs.names.put_name.Goals as goal

pub returns : goal.returns
returns c =
    let went = within-gone c.args.names.now c.args.n c.requires.1 c.args.i c.requires.0 c.copy_within.ensures.after in
    record { names_after = gone-put c.args.names.now c.args.n c.requires.1 c.args.i c.args.k c.requires.0 went; names_len_unchanged = search rules }
