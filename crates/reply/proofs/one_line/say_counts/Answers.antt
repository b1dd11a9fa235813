-- `say_counts` meets its contract: the three counts in an array.
use Rattle.reply.proofs.Saying.{counts-said}
use Rattle.reply.proofs.one_line.say_counts.Goals as goal

pub returns : goal.returns
returns c = counts-said _ c.package_count.ensures c.type_count.ensures c.member_count.ensures c.say.ensures
