use mathlib.Core.Path.{◌∙◌}
use lib.ListN.{length-set}
use Rattle.objects.proofs.Writing.{member-holds, member-elements}
use Rattle.objects.proofs.writers.put_member.Goals as goal

pub package_said-said-requires : goal.package_said-said-requires
package_said-said-requires c =
    c.requires.5

pub shape_of-rows : goal.shape_of-rows
shape_of-rows c =
    simp length-set (c.put_row.auto.rows ∙ c.raise.auto.rows)

pub returns : goal.returns
returns c =
    record {
      holds = member-holds _ _ _ _ _ _ _ _ _ c.package_said-said.ensures c.requires.0 c.requires.1 c.requires.2 c.requires.3 c.requires.4 c.member_count-m.ensures c.members_at-at.ensures.value c.raise.ensures c.put_row.ensures;
      rows_unchanged = member-elements _ _ _ _ _ _ _ _ _ c.requires.0 c.member_count-m.ensures c.members_at-at.ensures.value c.raise.ensures c.put_row.ensures;
    }
