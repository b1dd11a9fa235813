use Rattle.objects.specs.Table.{kind_at}
use Rattle.objects.specs.Rows.{member_at, table_of}
use Rattle.references.proofs.Failing.{member-forbidden}
use Rattle.references.proofs.tests.ForbiddenTest.member_fails.Goals as goal

pub returns : goal.returns
returns c above text =
    member-forbidden (table_of text c.args.rows.now) c.args.t (kind_at (table_of text c.args.rows.now) c.args.t) above (member_at text c.args.rows.now c.args.m) (c.member_allowed.ensures text)
