-- `put_tidied` meets its contract.
use Rattle.table_text.proofs.WritingTable.{laid-small}
use Rattle.tidy.proofs.TextLaws.{header-room, packages-room, remaining-room, tidied-wrote}
use Rattle.tidy.proofs.writer.put_tidied.Goals as goal

pub put_word-i-requires : goal.put_word-i-requires
put_word-i-requires c =
    header-room c.args.text.now c.args.rows.now c.requires.library c.args.twins.now c.args.numbers.now
    c.requires.twinned.0 c.requires.twinned.1 c.requires.rows_in_bounds.1 c.args.out.now _ c.requires.rows_in_bounds_2

pub put_packages-j-requires : goal.put_packages-j-requires
put_packages-j-requires c =
    packages-room c.args.text.now c.args.rows.now c.requires.library c.args.twins.now c.args.numbers.now c.requires.twinned.0 c.requires.twinned.1
    c.requires.rows_in_bounds.1 c.args.out.now _ c.requires.rows_in_bounds_2 c.put_word-i.ensures

pub put_remaining-requires : goal.put_remaining-requires
put_remaining-requires c =
    let room =
    remaining-room c.args.text.now c.args.rows.now c.requires.library c.args.twins.now c.args.numbers.now c.requires.twinned.0 c.requires.twinned.1
    c.requires.rows_in_bounds.1 c.args.out.now _ c.requires.rows_in_bounds_2 c.put_word-i.ensures c.put_packages-j.ensures in
    (laid-small c.args.rows.now c.requires.library.laid, c.requires.rows_in_bounds.0, room)

pub returns : goal.returns
returns c =
    tidied-wrote c.args.text.now c.args.rows.now c.requires.library c.args.twins.now c.args.numbers.now c.requires.twinned.0 c.requires.twinned.1
    c.requires.rows_in_bounds.1 c.put_word-i.ensures c.put_packages-j.ensures c.put_remaining.ensures
