-- `clashes::repeats` meets its contract.
use Rattle.objects.specs.Lists.{any}
use Rattle.objects.specs.Rows.{member_at, members_from, table_of}
use Rattle.rules.specs.Members.{same_member}
use Rattle.clashes.proofs.ClashLaws.{blank-repeats, others-repeat}
use Rattle.clashes.proofs.repeats.Goals as goal

pub returns-else-not-is_blank : goal.returns-else-not-is_blank
returns-else-not-is_blank c =
    rw c.if-not-is_blank.false (blank-repeats _ (any (same_member (table_of c.args.text.now c.args.rows.now) (member_at c.args.text.now c.args.rows.now c.args.m)) (members_from c.args.text.now c.args.rows.now c.args.first c.args.n)) c.is_blank.ensures c.if-not-is_blank.false)

pub returns-then-not-is_blank : goal.returns-then-not-is_blank
returns-then-not-is_blank c = others-repeat _ c.is_blank.ensures c.if-not-is_blank.true c.any_same.ensures
