-- `first_hits::cover::cover_methods` meets its contract. The invariant: the names are hidden by the fields that the rows so far have.
use Rattle.std.proofs.Common.{rules}
use mathlib.Core.Path.{◌≡◌, refl, ap}
use native.Mathlib.Omega.{arith}
use lib.ListN.{take}
use Rattle.walk_rows.proofs.StateLaws.{rows-most}
use Rattle.first_hits.proofs.CoverLaws.{covered_none, covered-empty}
use Rattle.first_hits.proofs.MetLaws.{row_typed, fields-none, fields-more}
use Rattle.first_hits.proofs.cover.cover_methods.Goals as goal

pub returns-then-count-eq0 : goal.returns-then-count-eq0
returns-then-count-eq0 c =
    let none = ap (λ count. take count c.args.names.now) c.if-count-eq0.true in
    record { held = c.requires.walked.1; covered = covered-empty c.args.text.now c.args.rows.now c.args.walk.now none _ _ c.args.hits.now c.requires.walked.2 }

pub loop-i-init : goal.loop-i-init
loop-i-init c =
    let none = fields-none c.args.rows.now c.args.walk.now in
    (c.requires.walked.1, covered_none c.args.text.now c.args.rows.now c.args.walk.now none _ (take c.args.count c.args.names.now) c.args.hits.now c.requires.walked.2, refl)

pub overflow_cast-i-end : goal.overflow_cast-i-end
overflow_cast-i-end c =
    omega (arith, rows-most c.requires.walked.0.rowed, c.requires.walked.0.rowed.most)

pub cover_stretch-requires-clause-held : goal.cover_stretch-requires-clause-held
cover_stretch-requires-clause-held c =
    (c.loop-i.invariant.0, c.parts-fields.ensures.within (omega arith) _ c.requires.library (row_typed c.requires.walked.0 c.loop-i.i c.loop-i-test.true))

pub loop-i-preserved : goal.loop-i-preserved
loop-i-preserved c =
    let met = fields-more c.args.rows.now c.args.walk.now c.loop-i.i in
    (c.cover_stretch.ensures.held_2, rw (met, ← c.parts-fields.ensures.met) (c.cover_stretch.ensures.covered _ _ c.loop-i.invariant.1), search rules)

pub returns : goal.returns
returns c =
    let all : c.loop-i.i ≡ c.args.n = omega (arith, c.loop-i.auto.i-end, c.loop-i-test.false) in
    record { held = c.loop-i.invariant.0; covered = rw all at c.loop-i.invariant.1 }
