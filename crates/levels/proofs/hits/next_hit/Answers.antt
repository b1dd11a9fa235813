-- `levels::hits::next_hit` meets its contract. The invariant: no row from lo up to this one has the name.
use native.Mathlib.Omega.{arith}
use Rattle.walk_rows.proofs.StateLaws.{rows-most}
use Rattle.walk_rows.proofs.LowerLaws.{row_in}
use Rattle.levels.specs.Hits.{Tells}
use Rattle.levels.proofs.HitLaws.{type-read, looked-on, looked-end, hit-found}
use Rattle.levels.proofs.hits.next_hit.Goals as goal

pub overflow_cast-row-end : goal.overflow_cast-row-end
overflow_cast-row-end c =
    omega (arith, rows-most c.requires.walked.0.rowed, c.requires.walked.0.rowed.most)

pub own_member-requires : goal.own_member-requires
own_member-requires c =
    record { library = c.requires.library; t_bound = (row_in c.requires.walked.0 _ c.loop-row-test.true c.record_at-e.result c.record_at-e.ensures, c.requires.walked.2) }

pub loop-row-preserved : goal.loop-row-preserved
loop-row-preserved c =
    let read = type-read _ _ _ c.record_at-e.ensures in
    looked-on _ _ _ _ _ _ _ c.loop-row.invariant c.loop-row-test.true read c.own_member.ensures c.in_default.is

pub returns-in-Some : goal.returns-in-Some
unfolding Tells
returns-in-Some c =
    let read = type-read _ _ _ c.record_at-e.ensures in
    hit-found _ _ _ _ _ _ _ c.loop-row.invariant c.loop-row-test.true read c.own_member.ensures c.requires.library c.in-Some.is

pub returns : goal.returns
unfolding Tells
returns c = looked-end _ _ _ _ _ _ _ c.loop-row.invariant c.loop-row-test.false
