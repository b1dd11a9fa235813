-- `put_package` meets its contract.
use mathlib.Core.Path.{refl}
use Rattle.print.proofs.WrittenLaws.{wrote_as}
use Rattle.table_text.proofs.WritingMembers.{package-none, package-some, room_for}
use Rattle.table_text.proofs.parts.put_package.Goals as goal

pub put_word-requires : goal.put_word-requires
put_word-requires c =
    room_for c.args.out.now _ (package-none _ c.if-n-eq0.true) c.requires

pub returns-then-n-eq0 : goal.returns-then-n-eq0
returns-then-n-eq0 c =
    wrote_as (package-none _ c.if-n-eq0.true) refl c.put_word.ensures

pub put_field-requires : goal.put_field-requires
put_field-requires c =
    room_for c.args.out.now _ (package-some _ c.if-n-eq0.false) c.requires

pub returns : goal.returns
returns c =
    wrote_as (package-some _ c.if-n-eq0.false) refl c.put_field.ensures
