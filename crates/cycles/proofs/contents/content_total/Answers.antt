use Rattle.std.proofs.Common.{rules, inl, inr}
use Rattle.cycles.proofs.ContentLaws.{total-array, total-struct, total-named, total-none}
use Rattle.cycles.proofs.contents.content_total.Goals as goal

pub returns-in-1 : goal.returns-in-1
returns-in-1 c =
    elim c.in-1.is [ inl e ↦ total-array _ _ c.kind_number.ensures e | inr e ↦ total-named _ _ c.kind_number.ensures e ]

pub returns-in-8 : goal.returns-in-8
returns-in-8 c = total-struct _ _ c.kind_number.ensures c.in-8.is c.member_total.ensures

pub returns-in_default : goal.returns-in_default
returns-in_default c = total-none _ _ c.kind_number.ensures (search rules) (search rules) (search rules)
