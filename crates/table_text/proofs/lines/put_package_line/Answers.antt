-- `put_package_line` meets its contract.
use Rattle.table_text.proofs.WritingMembers.{package-room, path_room, path-end-room, package-wrote}
use Rattle.table_text.proofs.lines.put_package_line.Goals as goal

pub put_word-i-requires : goal.put_word-i-requires
put_word-i-requires c =
    package-room c.args.text.now c.args.rows.now c.args.p c.package_word-from.ensures
    c.package_word-count.ensures c.args.out.now _ c.requires

pub put_part-j-requires : goal.put_part-j-requires
put_part-j-requires c =
    path_room c.args.text.now c.args.rows.now c.args.p c.package_word-from.ensures
    c.package_word-count.ensures c.args.out.now _ c.requires c.put_word-i.ensures

pub put_end-requires : goal.put_end-requires
put_end-requires c =
    path-end-room c.args.text.now c.args.rows.now c.args.p c.package_word-from.ensures
    c.package_word-count.ensures c.args.out.now _ c.requires c.put_word-i.ensures c.put_part-j.ensures

pub returns : goal.returns
returns c =
    package-wrote c.args.text.now c.args.rows.now c.args.p c.package_word-from.ensures
    c.package_word-count.ensures c.put_word-i.ensures c.put_part-j.ensures c.put_end.ensures
