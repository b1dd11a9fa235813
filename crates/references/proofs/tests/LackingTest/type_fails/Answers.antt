use Rattle.objects.specs.Table.{kind_at}
use Rattle.objects.specs.Rows.{table_of}
use Rattle.references.proofs.Failing.{type-lacking}
use Rattle.references.proofs.tests.LackingTest.type_fails.Goals as goal

pub returns : goal.returns
returns c text = type-lacking (table_of text c.args.rows.now) c.args.t (kind_at (table_of text c.args.rows.now) c.args.t) (c.refs_pass.ensures text)
