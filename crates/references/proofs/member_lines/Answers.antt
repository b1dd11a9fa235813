use Rattle.references.proofs.RowKinds.{some-under, none-under}
use Rattle.references.proofs.member_lines.Goals as goal

pub returns-then-kind_number-gt-FUNC : goal.returns-then-kind_number-gt-FUNC
returns-then-kind_number-gt-FUNC c =
    some-under c.args.rows.now c.args.t c.kind_number.ensures c.if-kind_number-gt-FUNC.true c.member_total.ensures

pub returns-else-kind_number-gt-FUNC : goal.returns-else-kind_number-gt-FUNC
returns-else-kind_number-gt-FUNC c = none-under c.args.rows.now c.args.t c.kind_number.ensures c.if-kind_number-gt-FUNC.false
