use mathlib.Core.Path.{refl}
use Rattle.objects.proofs.ListLaws.{clash}
use Rattle.type_parts.proofs.KinLaws.{peers-kin, left-place, right-place}
use Rattle.typ.proofs.Early.{parts-differ}
use Rattle.typ.proofs.identical.apart.Goals as goal

pub part_at-p-requires : goal.part_at-p-requires
part_at-p-requires c =
    left-place _ _ c.requires.library _ _ (peers-kin _ _ _ c.requires.peers) _ _ c.part_count-n.ensures c.loop-i-test.true

pub part_at-q-requires : goal.part_at-q-requires
part_at-q-requires c =
    right-place _ _ c.requires.library _ _ (peers-kin _ _ _ c.requires.peers) _ _ c.part_count-n.ensures c.loop-i-test.true

pub returns-then-unlike : goal.returns-then-unlike
returns-then-unlike c =
    λ _.
    parts-differ _ _ c.requires.library _ _ c.requires.peers _ _ c.part_count-n.ensures c.loop-i-test.true _ _ c.part_at-p.ensures c.part_at-q.ensures
    (c.unlike.ensures c.if-unlike.true)

pub returns : goal.returns
returns c = λ q. clash q refl
