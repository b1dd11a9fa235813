-- `clashes::prepare` meets its contract.
use Rattle.clashes.proofs.SeenLaws.{prepared-named, prepared-other}
use Rattle.clashes.proofs.prepare.Goals as goal

pub returns-then-kind_number-eq-NAMED : goal.returns-then-kind_number-eq-NAMED
returns-then-kind_number-eq-NAMED c =
    prepared-named c.args.text.now c.args.rows.now c.args.t c.kind_number.ensures _ _ c.type_word.ensures c.meet_once.ensures

pub returns-else-kind_number-eq-NAMED : goal.returns-else-kind_number-eq-NAMED
returns-else-kind_number-eq-NAMED c =
    prepared-other c.args.text.now c.args.rows.now c.args.t c.kind_number.ensures _ _ c.if-kind_number-eq-NAMED.false c.requires.3
