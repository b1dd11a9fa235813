-- `clashes::any_same` meets its contract. The invariant: none of the first i has m's identity.
use mathlib.Core.Path.{sym, ◌∙◌}
use native.Mathlib.Omega.{arith}
use Rattle.objects.specs.Rows.{member_at, table_of}
use Rattle.rules.specs.Members.{same_member}
use Rattle.clashes.proofs.MemberRuns.{any-start, any-on, any_here, any-end}
use Rattle.clashes.proofs.any_same.Goals as goal

pub loop-i-init : goal.loop-i-init
loop-i-init c =
    any-start c.args.text.now c.args.rows.now c.args.first (same_member (table_of c.args.text.now c.args.rows.now) (member_at c.args.text.now c.args.rows.now c.args.m))

pub overflow_add-first : goal.overflow_add-first
overflow_add-first c = omega (arith, c.requires.2)

pub same_member-requires : goal.same_member-requires
same_member-requires c = (c.requires.0, c.requires.1 _ c.loop-i-test.true, c.requires.3)

pub returns-then-same_member : goal.returns-then-same_member
returns-then-same_member c =
    sym (any_here c.args.text.now c.args.rows.now c.args.first (same_member (table_of c.args.text.now c.args.rows.now) (member_at c.args.text.now c.args.rows.now c.args.m)) c.loop-i.i c.args.n c.loop-i-test.true (sym c.same_member.ensures ∙ c.if-same_member.true))

pub loop-i-preserved : goal.loop-i-preserved
loop-i-preserved c =
    any-on c.args.text.now c.args.rows.now c.args.first (same_member (table_of c.args.text.now c.args.rows.now) (member_at c.args.text.now c.args.rows.now c.args.m)) c.loop-i.i c.loop-i.invariant (sym c.same_member.ensures ∙ c.if-same_member.false)

pub returns : goal.returns
returns c =
    sym (any-end c.args.text.now c.args.rows.now c.args.first (same_member (table_of c.args.text.now c.args.rows.now) (member_at c.args.text.now c.args.rows.now c.args.m)) (omega arith) c.loop-i-test.false c.loop-i.invariant)
