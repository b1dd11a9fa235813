use native.Mathlib.Omega.{arith}
use lib.ListN.{length-set}
use Rattle.print.proofs.WrittenLaws.{byte-wrote}
use Rattle.print.proofs.put_field.Goals as goal

pub put_decimal-requires : goal.put_decimal-requires
put_decimal-requires c = simp length-set (omega arith)

pub returns : goal.returns
returns c = byte-wrote c.put_decimal.ensures
