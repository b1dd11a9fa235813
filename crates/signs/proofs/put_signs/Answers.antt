-- `signs::put_signs` meets its contract. The invariant: the members before m are signed.
use Rattle.std.proofs.Common.{rules}
use native.Mathlib.Omega.{arith}
use Rattle.signs.proofs.SignLaws.{signing-on}
use Rattle.signs.proofs.put_signs.Goals as goal

pub loop-m-preserved : goal.loop-m-preserved
loop-m-preserved c =
    (search rules, signing-on _ _ _ _ c.loop-m.invariant.1 (omega (arith, c.loop-m-test.true, c.member_count-n.ensures)) c.name_hash-sign.ensures.value c.put_sign.ensures)
