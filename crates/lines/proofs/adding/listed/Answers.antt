-- `lines::adding::listed` meets its contract.
use mathlib.Core.Path.{sym, ◌∙◌}
use Rattle.lines.proofs.TupleLaws.{all_done, all-wrong, all_more, fields-fall}
use Rattle.lines.proofs.adding.listed.Goals as goal

pub returns : goal.returns
returns c = sym (c.loop-d.invariant ∙ all_done _ _ c.done.ensures c.loop-d-test.false)

pub loop-d-smaller : goal.loop-d-smaller
loop-d-smaller c = fields-fall c.args.s.now c.loop-d.d _ c.small.ensures c.in-Some.is

pub loop-d-preserved : goal.loop-d-preserved
loop-d-preserved c = c.loop-d.invariant ∙ all_more _ _ _ c.small.ensures c.in-Some.is

pub returns-in_default : goal.returns-in_default
returns-in_default c =
    sym (c.loop-d.invariant ∙ all-wrong _ _ _ c.small.ensures c.done.ensures c.loop-d-test.true c.in_default.is)
