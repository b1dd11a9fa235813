-- `keeps_out`.
use mathlib.Core.Path.{◌∙◌}
use borrow.Author.Tests.{lt-ltb}
use Rattle.walk_rows.proofs.EnterLaws.{out-earlier, out-marked}
use Rattle.walk_rows.proofs.enter.keeps_out.Goals as goal

pub returns-then-r-level : goal.returns-then-r-level
returns-then-r-level c =
    lt-ltb _ _ c.if-r-level.true ∙ out-earlier c.args.walk.now c.args.i c.args.level c.record_at-r.result c.record_at-r.ensures c.if-r-level.true

pub returns-else-r-level : goal.returns-else-r-level
returns-else-r-level c =
    out-marked c.args.walk.now c.args.i c.args.level c.record_at-r.result c.record_at-r.ensures c.if-r-level.false
