-- `consolidate_multiples`: the records passed are of other types.
use mathlib.Core.Path.{◌≡◌, sym, ◌∙◌}
use mathlib.Core.Logic.{◌≢◌}
use lib.ListN.{get_or}
use Rattle.std.proofs.lemmas.List.{set-get_or}
use Rattle.multiples.specs.Records.{empty}
use Rattle.multiples.proofs.MarkLaws.{told-same, told-other, marked-first, marked-none, absent_more, absent-all}
use Rattle.multiples.proofs.consolidate_multiples.Goals as goal

pub returns-then-eq : goal.returns-then-eq
returns-then-eq c =
    let start = c.args in
    let at-loop = c.loop-r in
    let typed : (get_or start.level.now at-loop.r-index empty).typ ≡ start.t = rw (sym at-loop.invariant.0) (told-same c.eq.ensures c.if-eq.true) in
    rw at-loop.invariant.0 (marked-first start.level.now at-loop.r-index start.t c.loop-r-test.true at-loop.invariant.1 typed)

pub loop-r-preserved : goal.loop-r-preserved
loop-r-preserved c =
    let start = c.args in
    let at-loop = c.loop-r in
    let other : (get_or start.level.now at-loop.r-index empty).typ ≢ start.t = rw (sym at-loop.invariant.0) (told-other c.eq.ensures c.if-eq.false) in
    (set-get_or at-loop.level at-loop.r-index empty ∙ at-loop.invariant.0, absent_more start.level.now at-loop.r-index start.t at-loop.invariant.1 other)

pub returns : goal.returns
returns c =
    let start = c.args in
    let at-loop = c.loop-r in
    at-loop.invariant.0 ∙ marked-none start.level.now start.t (absent-all start.level.now at-loop.r-index start.t at-loop.invariant.1 c.loop-r-test.false)
