-- `put_part` meets its contract.
use mathlib.Core.Path.{refl}
use Rattle.print.proofs.WrittenLaws.{room_as, wrote_as}
use Rattle.table_text.proofs.Writing.{part-is}
use Rattle.table_text.proofs.parts.put_part.Goals as goal

pub put_word-requires : goal.put_word-requires
put_word-requires c =
    room_as {o = c.args.out.now} _ (part-is _ _ _ c.span.ensures) refl c.requires

pub returns : goal.returns
returns c =
    wrote_as (part-is _ _ _ c.span.ensures) refl c.put_word.ensures
