-- `signs::sign_members` meets its contract.
use native.Mathlib.Omega.{arith}
use Rattle.signs.proofs.SignLaws.{signed-members}
use Rattle.signs.proofs.sign_members.Goals as goal

pub returns-then-end-rows : goal.returns-then-end-rows
returns-then-end-rows c =
    record {
      library = (signed-members _ _ _ _ c.requires (omega (arith, c.if-end-rows.true, c.element_count.ensures, c.member_count.ensures, c.signs_at.ensures))
          c.put_signs.ensures c.put_signed.ensures).0;
      rows_unchanged = (signed-members _ _ _ _ c.requires (omega (arith, c.if-end-rows.true, c.element_count.ensures, c.member_count.ensures, c.signs_at.ensures))
          c.put_signs.ensures c.put_signed.ensures).1;
    }
