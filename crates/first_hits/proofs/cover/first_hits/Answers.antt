-- `first_hits::cover::first_hits` meets its contract.

use Rattle.first_hits.proofs.cover.first_hits.Goals as goal

pub cover_methods-requires : goal.cover_methods-requires
cover_methods-requires c =
    record { library = c.requires.library; walked = (c.requires.walked.0, c.meet_methods-count.ensures.held, c.meet_methods-count.ensures.settles) }

pub returns : goal.returns
returns c = record { held = c.cover_methods.ensures.held; covered = c.cover_methods.ensures.covered }
