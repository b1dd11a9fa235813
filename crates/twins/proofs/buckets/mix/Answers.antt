-- `mix` meets its contract.
use Rattle.std.proofs.Common.{rules}
use Rattle.twins.specs.Chains.{mixed}
use Rattle.twins.proofs.buckets.mix.Goals as goal

pub returns : goal.returns
unfolding mixed
returns c = search rules
