-- `yifgrun_ask_all` meets its contract.
use Rattle.yifgrun.proofs.Signed.{back}
use Rattle.yifgrun.proofs.Asking.{gives-all, gives-number}
use Rattle.yifgrun.proofs.yifgrun_ask_all.Goals as goal

pub returns : goal.returns
returns c = gives-all _ _ _ _ (gives-number (back _ c.call.type_inv) c.call.ensures)
