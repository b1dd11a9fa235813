-- `first_hits::gather::parts` meets its contract.
use mathlib.Core.Path.{sym, ◌∙◌}
use Rattle.levels.proofs.HitLaws.{type-read}
use Rattle.first_hits.proofs.MetLaws.{stretch-none, parts_none, parts-some, parts-within}
use Rattle.first_hits.proofs.gather.parts.Goals as goal

pub returns-then-kind_number-kind-clause-met : goal.returns-then-kind_number-kind-clause-met
returns-then-kind_number-kind-clause-met c =
    let at = type-read c.record_at.result c.args.walk.now c.args.i c.record_at.ensures in
    stretch-none 0 0 ∙ sym (parts_none c.args.rows.now c.args.walk.now c.args.i at c.under-u.ensures c.kind_number.ensures c.args.kind c.if-kind_number-kind.true)

pub returns-clause-met : goal.returns-clause-met
returns-clause-met c =
    let at = type-read c.record_at.result c.args.walk.now c.args.i c.record_at.ensures in
    sym (parts-some c.args.rows.now c.args.walk.now c.args.i at c.under-u.ensures c.kind_number.ensures c.args.kind c.if-kind_number-kind.false c.first_member.ensures c.member_total.ensures)

pub returns-clause-within : goal.returns-clause-within
returns-clause-within c many text lib =
    let at = type-read c.record_at.result c.args.walk.now c.args.i c.record_at.ensures in
    parts-within c.args.rows.now c.args.walk.now c.args.i at c.under-u.ensures c.kind_number.ensures c.args.kind c.if-kind_number-kind.false c.first_member.ensures c.member_total.ensures lib many
