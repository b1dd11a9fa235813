-- `first_hits::cover::hide` meets its contract.
use mathlib.Core.Path.{sym}
use Prim.Native.Nat.{◌<◌, ◌≤◌}
use native.Mathlib.Omega.{arith}
use borrow.Author.Tests.{le-leb, lt-leb}
use Rattle.walk_rows.specs.Records.{level_of}
use Rattle.first_hits.specs.Hits.{hit_row}
use Rattle.first_hits.proofs.HitLaws.{covered-yes, covered-no}
use Rattle.first_hits.proofs.cover.hide.Goals as goal

pub returns-then-level_at : goal.returns-then-level_at
returns-then-level_at c =
    let above : level_of c.args.walk.now c.args.row ≤ level_of c.args.walk.now (hit_row c.args.hits.now c.args.k) = omega (arith, c.level_at.ensures, c.level_at-2.ensures, c.if-level_at.true) in
    sym (covered-yes c.args.walk.now c.args.row c.args.k c.args.hits.now (le-leb _ _ above))

pub returns-else-level_at : goal.returns-else-level_at
returns-else-level_at c =
    let below : level_of c.args.walk.now (hit_row c.args.hits.now c.args.k) < level_of c.args.walk.now c.args.row = omega (arith, c.level_at.ensures, c.level_at-2.ensures, c.if-level_at.false) in
    sym (covered-no c.args.walk.now c.args.row c.args.k c.args.hits.now (lt-leb _ _ below))
