-- `selection::plain_member` meets its contract.
use Rattle.std.proofs.Common.{rules, inl, inr}
use mathlib.Core.Path.{◌∙◌}
use Rattle.selection.proofs.OwnLaws.{plain-struct, plain-iface, plain_other}
use Rattle.selection.proofs.plain_member.Goals as goal

pub returns-then-kind-eq-IFACE : goal.returns-then-kind-eq-IFACE
returns-then-kind-eq-IFACE c =
    elim c.if-kind-eq-IFACE.either [
      | inl e ↦ c.listed.ensures ∙ plain-struct _ _ _ _ c.requires.u_bound.0 c.kind_number-kind.ensures e
      | inr e ↦ c.listed.ensures ∙ plain-iface _ _ _ _ c.requires.u_bound.0 c.kind_number-kind.ensures e.1
    ]

pub returns-else-kind-eq-IFACE : goal.returns-else-kind-eq-IFACE
returns-else-kind-eq-IFACE c = plain_other _ _ _ _ c.requires.u_bound.0 c.kind_number-kind.ensures (search rules) (search rules)
