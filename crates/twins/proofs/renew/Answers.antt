use Rattle.twins.proofs.SlackLaws.{renewed}
use Rattle.twins.proofs.renew.Goals as goal

pub returns-clause-renewed : goal.returns-clause-renewed
returns-clause-renewed c =
    renewed _ _ _ c.requires.0 c.requires.1 c.copy_from_slice.ensures.after c.ne-changed.ensures
