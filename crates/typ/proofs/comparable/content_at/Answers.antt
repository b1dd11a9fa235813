use native.Mathlib.Omega.{arith}
use Rattle.type_parts.proofs.ReadLaws.{span-as}
use Rattle.typ.proofs.comparable.content_at.Goals as goal

pub overflow_add-first : goal.overflow_add-first
overflow_add-first c =
    let s = span-as _ _ c.type_of-ty.ensures c.in-Struct.is in omega (arith, s.0, c.requires)
