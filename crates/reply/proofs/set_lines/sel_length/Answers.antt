-- `sel_length` meets its contract.
use Rattle.reply.proofs.Setting.{sel-length}
use Rattle.reply.proofs.set_lines.sel_length.Goals as goal

pub returns : goal.returns
returns c =
    sel-length _ _ _ _ c.selection-n.new.out _ c.selection-n.ensures.0 c.line_length.ensures c.selection-n.ensures.1
