use native.Mathlib.Omega.{arith}
use lib.ListN.{length-set}
use Rattle.objects.proofs.Writing.{element-holds, element-elements}
use Rattle.objects.proofs.writers.put_element.Goals as goal

pub bounds-rows-3 : goal.bounds-rows-3
bounds-rows-3 c = simp length-set (omega arith)

pub returns : goal.returns
returns c =
    record {
      holds = element-holds _ c.args.e c.requires.0 c.requires.1 c.requires.2 c.requires.3 c.requires.4 c.element_count-n.ensures c.raise.ensures;
      rows_after = element-elements _ _ c.requires.0 c.element_count-n.ensures c.raise.ensures;
    }
