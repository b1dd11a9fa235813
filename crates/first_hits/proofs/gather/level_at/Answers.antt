-- `first_hits::gather::level_at` meets its contract.
use Rattle.walk_rows.proofs.RecordLaws.{level-read}
use Rattle.first_hits.proofs.gather.level_at.Goals as goal

pub returns : goal.returns
returns c =
    level-read c.args.walk.now c.args.i c.record_at.result c.record_at.ensures
