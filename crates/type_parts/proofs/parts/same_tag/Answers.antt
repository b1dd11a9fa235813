use Rattle.type_parts.proofs.MemberRead.{spans-same}
use Rattle.type_parts.proofs.parts.same_tag.Goals as goal

pub returns : goal.returns
returns c = spans-same _ c.member_word-ma.ensures c.tag_length-ml.ensures c.member_word-na.ensures c.tag_length-nl.ensures c.same_part.ensures
