-- `clashes::first_line` meets its contract. The invariant: what is found under t is found from its member i on, those before ascend in an interface, and
-- they are marked elsewhere.
use Rattle.std.proofs.Common.{rules}
use mathlib.Core.Path.{sym, ◌∙◌}
use native.Mathlib.Omega.{arith}
use Rattle.objects.specs.Table.{kind_at}
use Rattle.objects.specs.Rows.{table_of}
use Rattle.rules.specs.Checks.{clashing}
use Rattle.rules.proofs.ItemLaws.{members-start}
use Rattle.references.proofs.RowKinds.{lines_fit}
use Rattle.references.proofs.Walking.{under-end}
use Rattle.clashes.proofs.ClashLaws.{clash-on, clash-stop, rising-start, rising-on}
use Rattle.clashes.proofs.first_line.Goals as goal

pub loop-i-init : goal.loop-i-init
loop-i-init c =
    (members-start (table_of c.args.text.now c.args.rows.now) (clashing (table_of c.args.text.now c.args.rows.now)) c.args.t (kind_at (table_of c.args.text.now c.args.rows.now) c.args.t), rising-start c.args.text.now c.args.rows.now c.args.t, search rules, λ j m. m, c.requires.4)

pub line_clashes-requires : goal.line_clashes-requires
line_clashes-requires c =
    (c.requires.0, c.requires.1, c.requires.2, rw c.member_lines-i-end.ensures at c.loop-i-test.true, c.loop-i.invariant.1, search rules, c.loop-i.invariant.4)

pub overflow_add-first : goal.overflow_add-first
overflow_add-first c =
    omega (arith, lines_fit c.args.rows.now c.requires.0 c.args.t c.requires.2, c.first_member-first.ensures, c.member_lines-i-end.ensures, c.loop-i-test.true)

pub returns-then-line_clashes : goal.returns-then-line_clashes
returns-then-line_clashes c =
    record { result_value = sym (c.loop-i.invariant.0 ∙ clash-stop c.args.text.now c.args.rows.now c.args.t c.requires.2 c.loop-i.i (rw c.member_lines-i-end.ensures at c.loop-i-test.true) c.line_clashes.ensures.answer c.requires.0 c.if-line_clashes.true c.first_member-first.ensures c.member_word.ensures); grows = λ j m. c.line_clashes.ensures.grows j (c.loop-i.invariant.3 j m) }

pub loop-i-preserved : goal.loop-i-preserved
loop-i-preserved c =
    (c.loop-i.invariant.0 ∙ clash-on c.args.text.now c.args.rows.now c.args.t c.requires.2 c.loop-i.i (rw c.member_lines-i-end.ensures at c.loop-i-test.true) c.line_clashes.ensures.answer c.if-line_clashes.false, rising-on c.args.text.now c.args.rows.now c.args.t c.requires.2 c.loop-i.i (rw c.member_lines-i-end.ensures at c.loop-i-test.true) c.line_clashes.ensures.answer c.if-line_clashes.false c.loop-i.invariant.1, search rules, λ j m. c.line_clashes.ensures.grows j (c.loop-i.invariant.3 j m), c.line_clashes.ensures.seen)

pub returns : goal.returns
returns c =
    record { result_value = sym (c.loop-i.invariant.0 ∙ under-end c.args.text.now c.args.rows.now (clashing (table_of c.args.text.now c.args.rows.now)) c.args.t c.requires.2 c.member_lines-i-end.ensures _ c.loop-i-test.false); grows = c.loop-i.invariant.3 }
