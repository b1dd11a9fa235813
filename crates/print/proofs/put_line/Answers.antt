use native.Mathlib.Omega.{arith}
use lib.ListN.{take}
use Rattle.print.proofs.LineLaws.{line-length, line_wrote}
use Rattle.print.proofs.WrittenLaws.{wrote-length}
use Rattle.print.proofs.put_line.Goals as goal

pub put_word-i-requires : goal.put_word-i-requires
put_word-i-requires c = omega (arith, line-length c.args.word.now (take c.args.n c.args.ns.now))

pub put_fields-requires : goal.put_fields-requires
put_fields-requires c =
    omega (arith, line-length c.args.word.now (take c.args.n c.args.ns.now), c.put_word-i.ensures.past, wrote-length c.put_word-i.ensures)

pub returns : goal.returns
returns c = line_wrote _ _ c.put_word-i.ensures c.put_fields.ensures
