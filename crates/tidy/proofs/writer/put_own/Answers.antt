-- `put_own` meets its contract.
use Rattle.tidy.proofs.TextLaws.{none-wrote, some-room, some-wrote}
use Rattle.tidy.proofs.writer.put_own.Goals as goal

pub returns-then-twins-t : goal.returns-then-twins-t
returns-then-twins-t c =
    none-wrote c.args.text.now c.args.rows.now c.args.twins.now c.args.numbers.now c.args.t c.if-twins-t.true _ _

pub put_type-requires : goal.put_type-requires
put_type-requires c =
    let room =
    some-room c.args.text.now c.args.rows.now c.args.twins.now c.args.numbers.now c.args.t
    c.if-twins-t.false c.args.out.now _ c.requires.2 in
    (c.requires.1, room)

pub returns : goal.returns
returns c =
    some-wrote c.args.text.now c.args.rows.now c.args.twins.now c.args.numbers.now c.args.t c.if-twins-t.false c.put_type.ensures
