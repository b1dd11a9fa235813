-- `lines::adding::add_type` meets its contract.
use Rattle.lines.proofs.AddLaws.{type-full, type-added}
use Rattle.lines.proofs.adding.add_type.Goals as goal

pub returns : goal.returns
returns c =
    type-added _ _ _ _ _ _ c.requires.0 c.type_count.ensures c.if-type_count-ge-TYPES.false _ c.put_type.ensures.holds c.put_type.ensures.rows_unchanged

pub returns-then-type_count-ge-TYPES : goal.returns-then-type_count-ge-TYPES
returns-then-type_count-ge-TYPES c = λ text. type-full _ _ c.requires.0 c.type_count.ensures text _ c.if-type_count-ge-TYPES.true
