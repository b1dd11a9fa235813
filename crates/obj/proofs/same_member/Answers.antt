-- `obj::same_member` meets its contract: a member's identity is that of its name, asked for from its package.
use mathlib.Core.Path.{ap, ◌∙◌}
use Rattle.obj.proofs.IdentityLaws.{member-has, member-asked}
use Rattle.rules.specs.Members.{same_id}
use Rattle.obj.proofs.same_member.Goals as goal

pub same_id-requires : goal.same_id-requires
same_id-requires c =
    (c.requires.0, member-has _ _ _ c.requires.1 c.member_package.ensures, c.requires.2)

pub returns : goal.returns
returns c =
    c.same_id.ensures ∙ ap (same_id _) (member-asked _ _ _ c.member_word.ensures c.member_word-2.ensures c.member_package.ensures)
