use Rattle.objects.proofs.Reading.{iface-is}
use Rattle.objects.proofs.rows.iface_under.Goals as goal

pub returns : goal.returns
returns c = iface-is _ _ c.under.ensures c.kind_number.ensures
