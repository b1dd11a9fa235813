use mathlib.Core.Path.{sym, ◌∙◌}
use native.Mathlib.Omega.{arith}
use Rattle.objects.specs.Table.{kind_at}
use Rattle.objects.specs.Rows.{table_of}
use Rattle.rules.proofs.ItemLaws.{members-start}
use Rattle.references.proofs.RowKinds.{lines_fit, some-lines}
use Rattle.references.proofs.Walking.{under-on, under-stop, under-end}
use Rattle.references.proofs.first_member_line.Goals as goal

pub loop-i-init : goal.loop-i-init
loop-i-init g c text =
    members-start (table_of text c.args.rows.now) (g.X.Test.fails (table_of text c.args.rows.now)) c.args.t (kind_at (table_of text c.args.rows.now) c.args.t)

pub overflow_add-m : goal.overflow_add-m
overflow_add-m g c =
    omega (arith, lines_fit c.args.rows.now (c.requires.0) c.args.t (c.requires.1), c.first_member-first.ensures, c.member_lines-i-end.ensures)

pub member_fails-requires : goal.member_fails-requires
member_fails-requires g c =
    (c.requires.1, (some-lines c.args.rows.now (c.requires.0) c.args.t (c.requires.1) _ (rw c.member_lines-i-end.ensures at c.loop-i-test.true)).0)

pub returns-then-member_fails : goal.returns-then-member_fails
returns-then-member_fails g c text =
    sym (c.loop-i.invariant text ∙ under-stop text c.args.rows.now (g.X.Test.fails (table_of text c.args.rows.now)) c.args.t (c.requires.1) c.member_lines-i-end.ensures _ c.loop-i-test.true c.first_member-first.ensures (λ above. c.member_fails.ensures above text) (c.requires.0) c.if-member_fails.true c.member_word.ensures)

pub loop-i-preserved : goal.loop-i-preserved
loop-i-preserved g c text =
    c.loop-i.invariant text ∙ under-on text c.args.rows.now (g.X.Test.fails (table_of text c.args.rows.now)) c.args.t (c.requires.1) c.member_lines-i-end.ensures _ c.loop-i-test.true c.first_member-first.ensures (λ above. c.member_fails.ensures above text) c.if-member_fails.false

pub returns : goal.returns
returns g c text =
    sym (c.loop-i.invariant text ∙ under-end text c.args.rows.now (g.X.Test.fails (table_of text c.args.rows.now)) c.args.t (c.requires.1) c.member_lines-i-end.ensures _ c.loop-i-test.false)
