use mathlib.Core.Path.{sym, ◌∙◌}
use Rattle.objects.specs.Rows.{table_of}
use Rattle.rules.proofs.ItemLaws.{types-start}
use Rattle.references.proofs.Walking.{table_on, table-stop, table-end}
use Rattle.references.proofs.first_line.Goals as goal

pub loop-t-init : goal.loop-t-init
loop-t-init g c text = types-start (table_of text c.args.rows.now) (g.X.Test.fails (table_of text c.args.rows.now))

pub loop-t-preserved : goal.loop-t-preserved
loop-t-preserved g c text =
    c.loop-t.invariant text ∙ table_on text c.args.rows.now (g.X.Test.fails (table_of text c.args.rows.now)) c.type_count-t-end.ensures _ c.loop-t-test.true (c.first_line_of.ensures text) c.in_default.is

pub returns-in-Some : goal.returns-in-Some
returns-in-Some g c text =
    sym (c.loop-t.invariant text ∙ table-stop text c.args.rows.now (g.X.Test.fails (table_of text c.args.rows.now)) c.type_count-t-end.ensures _ c.loop-t-test.true (c.first_line_of.ensures text) _ c.in-Some.is)

pub returns : goal.returns
returns g c text =
    sym (c.loop-t.invariant text ∙ table-end text c.args.rows.now (g.X.Test.fails (table_of text c.args.rows.now)) c.type_count-t-end.ensures _ c.loop-t-test.false)
