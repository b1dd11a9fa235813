-- `settle` meets its contract.
use mathlib.Core.Path.{◌∙◌}
use Rattle.twins.proofs.SettleLaws.{next-coarse, next-twinned, next-falls}
use Rattle.twins.proofs.settle.Goals as goal

pub loop-n-smaller : goal.loop-n-smaller
loop-n-smaller c =
    next-falls _ _ c.requires.library _ _ _ _ _ c.type_count-n.ensures c.loop-n.invariant.2 c.refine.ensures.classed c.renew.ensures.renewed c.if-not-renew.false

pub loop-n-preserved : goal.loop-n-preserved
loop-n-preserved c = (
  c.renew.ensures.labels_len_unchanged ∙ c.loop-n.invariant.0,
  c.refine.ensures.fresh_len_unchanged ∙ c.loop-n.invariant.1,
  next-coarse _ _ c.requires.library _ _ _ _ _ c.type_count-n.ensures c.loop-n.invariant.2 c.refine.ensures.classed c.renew.ensures.renewed,
)

pub returns-then-not-renew : goal.returns-then-not-renew
returns-then-not-renew c =
    next-twinned _ _ c.requires.library _ _ _ _ _ c.type_count-n.ensures c.loop-n.invariant.2 c.refine.ensures.classed c.renew.ensures.renewed c.if-not-renew.true
