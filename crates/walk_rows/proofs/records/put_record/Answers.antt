-- `put_record`.
use Rattle.std.proofs.Common.{rules}
use Rattle.walk_rows.specs.Records.{record_put}
use Rattle.walk_rows.proofs.records.put_record.Goals as goal

pub returns : goal.returns
unfolding record_put
returns c = search rules
