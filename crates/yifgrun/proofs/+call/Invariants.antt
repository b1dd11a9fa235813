-- `call` calls itself on fewer words: their number falls.
use Rattle.std.proofs.Common.{length}
use Rattle.yifgrun.proofs.+call.Given as goal

abbrev pub decreases-call : goal.decreases-call
decreases-call l = length l.work.now
