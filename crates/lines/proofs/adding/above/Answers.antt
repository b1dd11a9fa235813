-- `lines::adding::above` meets its contract.
use Rattle.lines.proofs.AboveLaws.{none_above, kind-above}
use Rattle.lines.proofs.adding.above.Goals as goal

pub returns-then-type_count-eq0 : goal.returns-then-type_count-eq0
returns-then-type_count-eq0 c = λ text. none_above text _ c.type_count.ensures c.if-type_count-eq0.true

pub returns-else-type_count-eq0 : goal.returns-else-type_count-eq0
returns-else-type_count-eq0 c =
    λ text. kind-above text _ c.type_count.ensures c.if-type_count-eq0.false c.last.ensures c.kind_number.ensures
