-- `put_table` meets its contract.
use Rattle.table_text.proofs.WritingTable.{header-room, packages-room, types-room, table-wrote, laid-small}
use Rattle.table_text.proofs.put_table.Goals as goal

pub put_word-i-requires : goal.put_word-i-requires
put_word-i-requires c =
    header-room c.args.text.now c.args.rows.now c.args.out.now _ c.requires.1

pub put_packages-j-requires : goal.put_packages-j-requires
put_packages-j-requires c =
    packages-room c.args.text.now c.args.rows.now c.args.out.now _ c.requires.1 c.put_word-i.ensures

pub put_types-requires : goal.put_types-requires
put_types-requires c = (
  laid-small c.args.rows.now c.requires.0,
  types-room c.args.text.now c.args.rows.now c.args.out.now _ c.requires.1 c.put_word-i.ensures
      c.put_packages-j.ensures,
)

pub returns : goal.returns
returns c =
    table-wrote c.args.text.now c.args.rows.now c.put_word-i.ensures c.put_packages-j.ensures c.put_types.ensures
