-- `obj::same-id` meets its contract.
use mathlib.Core.Path.{sym, ◌∙◌}
use Rattle.obj.proofs.IdentityLaws.{member-has, equal-package, same-package, same-differ, same-exported, same-paths}
use Rattle.obj.proofs.same_id.Goals as goal

pub returns-then-exported : goal.returns-then-exported
returns-then-exported c =
    c.if-exported.true ∙ sym (same-exported _ _ _ _ _ _ _ c.member_word-a.ensures c.member_word-n.ensures c.same_across.ensures c.exported.ensures c.if-same_across.true c.if-exported.true)

pub returns-else-exported : goal.returns-else-exported
returns-else-exported c =
    c.eq.ensures ∙ equal-package _ _ ∙ same-package _ c.requires.2 _ _ (member-has _ _ _ c.requires.0 c.member_package.ensures) c.requires.1 ∙ sym (same-paths _ _ _ _ _ _ _ c.member_word-a.ensures c.member_word-n.ensures c.same_across.ensures c.exported.ensures c.if-same_across.true c.if-exported.false c.member_package.ensures)

pub returns-else-same_across : goal.returns-else-same_across
returns-else-same_across c =
    c.if-same_across.false ∙ sym (same-differ _ _ _ _ _ _ _ c.member_word-a.ensures c.member_word-n.ensures c.same_across.ensures c.if-same_across.false)
