use Rattle.objects.specs.Rows.{table_of}
use Rattle.references.proofs.Walking.{type-fails, type-passes}
use Rattle.references.proofs.first_line_of.Goals as goal

pub returns-then-type_fails : goal.returns-then-type_fails
returns-then-type_fails g c text =
    type-fails text c.args.rows.now (g.X.Test.fails (table_of text c.args.rows.now)) c.args.t (c.requires.1) (c.type_fails.ensures text) c.if-type_fails.true c.type_word.ensures

pub returns : goal.returns
returns g c text =
    type-passes text c.args.rows.now (g.X.Test.fails (table_of text c.args.rows.now)) c.args.t (c.requires.1) (c.type_fails.ensures text) c.if-type_fails.false (c.first_member_line.ensures text)
