-- `first_fit` meets its contract. The invariant: no type from the link's on, and before t, agrees with t, and the link leads to a type of its bucket.
use mathlib.Core.Path.{refl}
use Rattle.twins.proofs.LinkLaws.{unfit-none, unfit-more}
use Rattle.twins.proofs.rounds.first_fit.Goals as goal

pub loop-c-init : goal.loop-c-init
loop-c-init c =
    unfit-none _ _ _ _ c.requires.covers

pub loop-c-preserved : goal.loop-c-preserved
loop-c-preserved c =
    unfit-more _ _ _ _ _ c.loop-c-test.true refl c.loop-c.invariant c.args.links.now _ refl c.requires.linked c.agree.ensures c.if-agree.false
