use Rattle.objects.specs.Table.{kind_at}
use Rattle.objects.specs.Rows.{table_of}
use Rattle.references.proofs.Failing.{type-forbidden}
use Rattle.references.proofs.tests.ForbiddenTest.type_fails.Goals as goal

pub returns : goal.returns
returns c text = type-forbidden (table_of text c.args.rows.now) c.args.t (kind_at (table_of text c.args.rows.now) c.args.t) (c.type_allowed.ensures text)
