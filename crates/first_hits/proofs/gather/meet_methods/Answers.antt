-- `first_hits::gather::meet_methods` meets its contract. The invariant: the names are settled by what the rows so far have.
use Rattle.std.proofs.Common.{rules}
use mathlib.Core.Path.{◌≡◌, refl}
use native.Mathlib.Omega.{arith}
use Rattle.walk_rows.proofs.StateLaws.{rows-most}
use Rattle.first_hits.proofs.SettleLaws.{settles-none}
use Rattle.first_hits.proofs.MetLaws.{row_typed, methods-none, methods-more}
use Rattle.first_hits.proofs.gather.meet_methods.Goals as goal

pub loop-i-init : goal.loop-i-init
loop-i-init c =
    let none = settles-none c.args.text.now c.args.rows.now c.args.walk.now (methods-none c.args.rows.now c.args.walk.now) c.args.hits.now in
    (c.requires.walked.1, none, refl, refl)

pub overflow_cast-i-end : goal.overflow_cast-i-end
overflow_cast-i-end c =
    omega (arith, rows-most c.requires.walked.0.rowed, c.requires.walked.0.rowed.most)

pub meet_declared-count-requires-clause-held : goal.meet_declared-count-requires-clause-held
meet_declared-count-requires-clause-held c =
    (c.loop-i.invariant.0, row_typed c.requires.walked.0 c.loop-i.i c.loop-i-test.true)

pub meet_listed-count-requires-clause-held : goal.meet_listed-count-requires-clause-held
meet_listed-count-requires-clause-held c =
    (c.meet_declared-count.ensures.held_2, row_typed c.requires.walked.0 c.loop-i.i c.loop-i-test.true)

pub loop-i-preserved : goal.loop-i-preserved
loop-i-preserved c =
    let met = methods-more c.args.rows.now c.args.walk.now c.loop-i.i in
    (c.meet_listed-count.ensures.held_2, rw met (c.meet_listed-count.ensures.settles _ (c.meet_declared-count.ensures.settles _ c.loop-i.invariant.1)), search rules, search rules)

pub returns : goal.returns
returns c =
    let all : c.loop-i.i ≡ c.args.n = omega (arith, c.loop-i.auto.i-end, c.loop-i-test.false) in
    record { held = c.loop-i.invariant.0; settles = rw all at c.loop-i.invariant.1 }
