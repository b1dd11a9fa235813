-- `clashes::any_same` meets its contract. The invariant: none of the first i has m's identity.
use mathlib.Core.Path.{◌≡◌}
use mathlib.Core.Bool.{false}
use Rattle.objects.specs.Lists.{any}
use Rattle.objects.specs.Rows.{member_at, members_from, table_of}
use Rattle.rules.specs.Members.{same_member}
use Rattle.clashes.proofs.any_same.Given as goal

abbrev pub invariant-loop-i : goal.invariant-loop-i
invariant-loop-i l =
    any (same_member (table_of l.text l.rows) (member_at l.text l.rows l.m)) (members_from l.text l.rows l.first l.i) ≡ false
