use Rattle.type_parts.proofs.MemberRead.{tag-method, tag-field}
use Rattle.type_parts.proofs.parts.tag_length.Goals as goal

pub returns-then-is_method : goal.returns-then-is_method
returns-then-is_method c = tag-method _ _ _ c.is_method.ensures c.if-is_method.true

pub returns-else-is_method : goal.returns-else-is_method
returns-else-is_method c = tag-field _ _ _ c.is_method.ensures c.if-is_method.false c.member_word.ensures
