use Rattle.objects.specs.Table.{kind_at}
use Rattle.objects.specs.Rows.{member_at, table_of}
use Rattle.references.proofs.Failing.{member-lacking}
use Rattle.references.proofs.tests.LackingTest.member_fails.Goals as goal

pub returns : goal.returns
returns c above text =
    member-lacking (table_of text c.args.rows.now) c.args._t (kind_at (table_of text c.args.rows.now) c.args._t) above (member_at text c.args.rows.now c.args.m) (c.member_within.ensures text)
