-- `put_sel` meets its contract.
use native.Mathlib.Omega.{arith}
use Rattle.reply.proofs.Setting.{sel-room, sel-wrote}
use Rattle.reply.proofs.set_lines.put_sel.Goals as goal

pub put_line-requires : goal.put_line-requires
put_line-requires c =
    (omega arith, sel-room _ _ _ _ c.selection-n.new.out c.selection-n.result c.selection-n.ensures.0 c.args.at _ c.requires.k_in_bounds)

pub returns : goal.returns
returns c =
    sel-wrote _ _ _ _ c.selection-n.new.out c.selection-n.result c.selection-n.ensures.0 c.put_line.ensures
