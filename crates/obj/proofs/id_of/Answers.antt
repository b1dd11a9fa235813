-- `obj::id_of` meets its contract.
use Rattle.obj.proofs.IdLaws.{id-name, id-none, id-path}
use Rattle.obj.proofs.id_of.Goals as goal

pub returns-then-exported : goal.returns-then-exported
returns-then-exported c =
    id-name _ _ _ c.member_word-name.ensures c.member_word-len.ensures c.exported.ensures c.if-exported.true

pub returns-in-None : goal.returns-in-None
returns-in-None c =
    id-none _ _ _ c.member_word-name.ensures c.member_word-len.ensures c.exported.ensures c.if-exported.false c.member_package.ensures c.in-None.is

pub returns-in-Some : goal.returns-in-Some
returns-in-Some c =
    id-path _ _ _ c.member_word-name.ensures c.member_word-len.ensures c.exported.ensures c.if-exported.false c.member_package.ensures c.requires c.in-Some.is c.package_word.ensures c.package_word-in-Some.ensures
