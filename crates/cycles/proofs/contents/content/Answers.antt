use Rattle.std.proofs.Common.{rules}
use native.Mathlib.Omega.{arith}
use Rattle.cycles.proofs.ContentLaws.{content-array, content-struct, content-named, field-small}
use Rattle.cycles.proofs.contents.content.Goals as goal

pub overflow_add-first_member : goal.overflow_add-first_member
overflow_add-first_member c =
    omega (arith, field-small _ _ c.kind_number.ensures c.requires.0 c.requires.1 c.in-8.is c.first_member.ensures _ c.requires.2)

pub returns-in-1 : goal.returns-in-1
returns-in-1 c = content-array _ _ c.kind_number.ensures _ c.in-1.is c.type_word.ensures

pub returns-in-8 : goal.returns-in-8
returns-in-8 c = content-struct _ _ c.kind_number.ensures _ c.in-8.is c.first_member.ensures c.member_type.ensures

pub returns-in_default : goal.returns-in_default
returns-in_default c =
    content-named _ _ c.kind_number.ensures _ (search rules) (search rules) c.type_word-in_default.ensures
