-- How far the members of a table are signed.
use Rattle.std.specs.Prelude.{◌≡◌, ℕ, ◌<◌}
use Rattle.objects.specs.declared.ObjKey.{ObjKey}
use Rattle.objects.specs.Lists.{Bytes}
use Rattle.objects.specs.Rows.{Words, sign_at, member_at}
use Rattle.objects.specs.Laid.{Beside}
use Rattle.text.specs.Hash.{hash_from}

-- The first n members have their signs, and the table is as it was.
pub record Signing (text : Bytes) (rows : Words) (n : ℕ) (after : Words) : Type 0 where
  pub beside : Beside rows after
  pub signs : (m : ObjKey) → m.0 < n → sign_at after m ≡ hash_from 0 (member_at text rows m).name
