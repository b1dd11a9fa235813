-- `put_type` meets its contract.
use Rattle.table_text.proofs.WritingTypes.{line-room, alone-wrote, more_room, more-wrote}
use Rattle.table_text.proofs.put_type.Goals as goal

pub put_type_line-i-requires : goal.put_type_line-i-requires
put_type_line-i-requires c =
    (c.requires.0, line-room c.args.numbers.now c.args.text.now c.args.rows.now c.args.t c.args.out.now _ c.requires.1)

pub returns-then-kind_number-lt-STRUCT : goal.returns-then-kind_number-lt-STRUCT
returns-then-kind_number-lt-STRUCT c =
    alone-wrote c.args.numbers.now c.args.text.now c.args.rows.now c.args.t c.kind_number.ensures
    c.if-kind_number-lt-STRUCT.true c.put_type_line-i.ensures

pub put_members-requires : goal.put_members-requires
put_members-requires c =
    more_room c.args.numbers.now c.args.text.now c.args.rows.now c.args.t c.kind_number.ensures
    c.if-kind_number-lt-STRUCT.false c.first_member-first.ensures c.member_total-count.ensures c.requires.0 c.requires.1
    c.put_type_line-i.ensures

pub returns : goal.returns
returns c =
    more-wrote c.args.numbers.now c.args.text.now c.args.rows.now c.args.t c.kind_number.ensures
    c.if-kind_number-lt-STRUCT.false c.first_member-first.ensures c.member_total-count.ensures c.put_type_line-i.ensures
    c.put_members.ensures
