-- `clashes::first_of` meets its contract. The invariant: what is found in the table is found from type t on.
use Rattle.std.proofs.Common.{rules}
use mathlib.Core.Path.{sym, ◌∙◌}
use Rattle.objects.specs.Rows.{table_of}
use Rattle.rules.specs.Checks.{clashing}
use Rattle.rules.proofs.ItemLaws.{types-start}
use Rattle.references.proofs.Walking.{table_on, table-stop, table-end}
use Rattle.clashes.proofs.ClashLaws.{lines-clash}
use Rattle.clashes.proofs.first_of.Goals as goal

pub loop-t-init : goal.loop-t-init
loop-t-init c =
    (types-start (table_of c.args.text.now c.args.rows.now) (clashing (table_of c.args.text.now c.args.rows.now)), search rules, search rules, c.requires.4)

pub first_clash-requires : goal.first_clash-requires
first_clash-requires c =
    (c.requires.0, c.requires.1, rw c.type_count-t-end.ensures at c.loop-t-test.true, search rules, search rules, c.loop-t.invariant.3)

pub loop-t-preserved : goal.loop-t-preserved
loop-t-preserved c =
    (c.loop-t.invariant.0 ∙ table_on c.args.text.now c.args.rows.now (clashing (table_of c.args.text.now c.args.rows.now)) c.type_count-t-end.ensures _ c.loop-t-test.true (lines-clash _ _ _ c.first_clash.ensures.result_value) c.in_default.is, search rules, search rules, c.first_clash.ensures.ready)

pub returns-in-Some : goal.returns-in-Some
returns-in-Some c =
    sym (c.loop-t.invariant.0 ∙ table-stop c.args.text.now c.args.rows.now (clashing (table_of c.args.text.now c.args.rows.now)) c.type_count-t-end.ensures _ c.loop-t-test.true (lines-clash _ _ _ c.first_clash.ensures.result_value) _ c.in-Some.is)

pub returns : goal.returns
returns c =
    sym (c.loop-t.invariant.0 ∙ table-end c.args.text.now c.args.rows.now (clashing (table_of c.args.text.now c.args.rows.now)) c.type_count-t-end.ensures _ c.loop-t-test.false)
