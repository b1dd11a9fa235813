-- `clashes::first_clash` meets its contract.
use Rattle.std.proofs.Common.{rules}
use mathlib.Core.Path.{sym, ◌∙◌}
use native.Mathlib.Omega.{arith}
use Rattle.objects.specs.Table.{kind_at}
use Rattle.objects.specs.Rows.{table_of}
use Rattle.rules.specs.Checks.{clashing}
use Rattle.rules.proofs.ItemLaws.{members-start}
use Rattle.references.proofs.Walking.{under-end}
use Rattle.clashes.proofs.SeenLaws.{ready-grown}
use Rattle.clashes.proofs.first_clash.Goals as goal

pub returns-then-member_lines-eq0 : goal.returns-then-member_lines-eq0
returns-then-member_lines-eq0 c =
    record { result_value = sym (members-start (table_of c.args.text.now c.args.rows.now) (clashing (table_of c.args.text.now c.args.rows.now)) c.args.t (kind_at (table_of c.args.text.now c.args.rows.now) c.args.t) ∙ under-end c.args.text.now c.args.rows.now (clashing (table_of c.args.text.now c.args.rows.now)) c.args.t c.requires.2 c.member_lines.ensures 0 (omega (arith, c.if-member_lines-eq0.true))); ready = c.requires.5 }

pub prepare-requires : goal.prepare-requires
prepare-requires c = (c.requires.0, c.requires.3, c.requires.4, c.requires.5)

pub first_line-requires : goal.first_line-requires
first_line-requires c = (c.requires.0, c.requires.1, c.requires.2, search rules, c.prepare.ensures.seen)

pub returns : goal.returns
returns c =
    record { result_value = c.first_line.ensures.result_value; ready = ready-grown _ _ _ _ c.first_line.ensures.grows _ c.prepare.ensures.ready }
