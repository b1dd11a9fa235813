-- `lookup::missing::compared` meets its contract.
use Rattle.lookup.proofs.MissingLaws.{compared_same, compared-other}
use Rattle.lookup.proofs.missing.compared.Goals as goal

pub returns-then-identical : goal.returns-then-identical
returns-then-identical c =
    record { result_value = compared_same _ _ _ _ c.member_type-x.ensures c.member_type-y.ensures c.identical.ensures.value c.if-identical.true; marks_unchanged = c.identical.ensures.marks_unchanged }

pub returns-else-identical : goal.returns-else-identical
returns-else-identical c =
    record { result_value = compared-other _ _ _ _ c.member_type-x.ensures c.member_type-y.ensures c.identical.ensures.value c.if-identical.false; marks_unchanged = c.identical.ensures.marks_unchanged }
