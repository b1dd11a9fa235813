-- `first_hits::gather::declared` meets its contract.
use mathlib.Core.Path.{sym, ◌∙◌}
use Rattle.levels.proofs.HitLaws.{type-read}
use Rattle.first_hits.proofs.MetLaws.{stretch-none, declared-none, declared-some, declared-within}
use Rattle.first_hits.proofs.gather.declared.Goals as goal

pub returns-then-not-named_at-clause-met : goal.returns-then-not-named_at-clause-met
returns-then-not-named_at-clause-met c =
    let at = type-read c.record_at.result c.args.walk.now c.args.i c.record_at.ensures in
    stretch-none 0 0 ∙ sym (declared-none c.args.rows.now c.args.walk.now c.args.i at c.named_at.ensures c.if-not-named_at.true)

pub returns-clause-met : goal.returns-clause-met
returns-clause-met c =
    let at = type-read c.record_at.result c.args.walk.now c.args.i c.record_at.ensures in
    sym (declared-some c.args.rows.now c.args.walk.now c.args.i at c.named_at.ensures c.if-not-named_at.false c.first_member.ensures c.member_total.ensures)

pub returns-clause-within : goal.returns-clause-within
returns-clause-within c text lib =
    let at = type-read c.record_at.result c.args.walk.now c.args.i c.record_at.ensures in
    declared-within c.args.rows.now c.args.walk.now c.args.i at c.named_at.ensures c.if-not-named_at.false c.first_member.ensures c.member_total.ensures lib.laid
