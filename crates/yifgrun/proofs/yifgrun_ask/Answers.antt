-- `yifgrun_ask` meets its contract.
use Rattle.yifgrun.proofs.Signed.{back}
use Rattle.yifgrun.proofs.Asking.{gives_one, gives-number}
use Rattle.yifgrun.proofs.yifgrun_ask.Goals as goal

pub returns : goal.returns
returns c = gives_one _ _ _ _ (gives-number (back _ c.call.type_inv) c.call.ensures)
