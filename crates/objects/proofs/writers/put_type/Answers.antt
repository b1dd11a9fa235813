use Rattle.objects.proofs.Writing.{type-holds, type-elements}
use Rattle.objects.proofs.writers.put_type.Goals as goal

pub returns : goal.returns
returns c =
    record {
      holds = type-holds _ _ _ _ _ _ c.requires.0 c.requires.1 c.requires.2 c.type_count-n.ensures c.start-first.ensures c.put_row.ensures;
      rows_unchanged = type-elements _ _ _ _ _ _ c.type_count-n.ensures c.start-first.ensures c.put_row.ensures;
    }
