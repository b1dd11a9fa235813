use native.Mathlib.Omega.{arith}
use Rattle.objects.proofs.ListLaws.{either}
use Rattle.type_parts.proofs.ReadLaws.{span-as}
use Rattle.type_parts.proofs.parts.part_of.Goals as goal

pub overflow_add-first : goal.overflow_add-first
overflow_add-first c =
    let s = span-as _ _ c.type_of-ty.ensures c.in-Tuple.is in omega (arith, s.0, c.requires)

pub overflow_add-first-in-Struct : goal.overflow_add-first-in-Struct
overflow_add-first-in-Struct c =
    let row = c.type_of-ty.ensures in
    either c.in-Struct.is (λ e. let s = span-as _ _ row e.1 in omega (arith, s.0, c.requires)) (λ e. let s = span-as _ _ row e.1 in omega (arith, s.0, c.requires))
