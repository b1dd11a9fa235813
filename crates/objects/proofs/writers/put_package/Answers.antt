use Rattle.objects.proofs.Writing.{package-holds, package-elements}
use Rattle.objects.proofs.writers.put_package.Goals as goal

pub returns : goal.returns
returns c =
    record {
      holds = package-holds _ _ _ c.requires.0 c.requires.1 c.package_count-p.ensures c.put_row.ensures;
      rows_unchanged = package-elements _ _ _ c.package_count-p.ensures c.put_row.ensures;
    }
