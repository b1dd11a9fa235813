use Rattle.method_lists.specs.Positions.{positions_end}
use Rattle.method_lists.proofs.positions_end.Goals as goal

pub returns : goal.returns
unfolding positions_end
returns c = c.member_total.ensures
