use Rattle.std.proofs.Common.{rules}
use mathlib.Core.Path.{sym}
use lib.ListN.{get_or-eq_default}
use Rattle.objects.specs.Rows.{word_at}
use Rattle.objects.proofs.rows.word.Goals as goal

pub returns-then-at-rows : goal.returns-then-at-rows
unfolding word_at
returns-then-at-rows c = search rules

pub returns-else-at-rows : goal.returns-else-at-rows
unfolding word_at
returns-else-at-rows c = sym (get_or-eq_default c.args.rows.now 0 c.if-at-rows.false)
