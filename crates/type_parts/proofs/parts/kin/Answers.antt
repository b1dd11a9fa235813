use mathlib.Core.Path.{◌∙◌}
use borrow.Author.Tests.{ne_eqb}
use Rattle.type_parts.proofs.ReadLaws.{kinds-other, owns-tell}
use Rattle.type_parts.proofs.parts.kin.Goals as goal

pub returns-then-kind_number : goal.returns-then-kind_number
returns-then-kind_number c =
    owns-tell _ _ _ _ _ _ _ c.kind_number.ensures c.kind_number-2.ensures c.if-kind_number.true c.own_number.ensures c.own_number-then-kind_number.ensures

pub returns-else-kind_number : goal.returns-else-kind_number
returns-else-kind_number c =
    ne_eqb _ _ c.if-kind_number.false ∙ kinds-other _ _ _ _ _ c.kind_number.ensures c.kind_number-2.ensures c.if-kind_number.false
