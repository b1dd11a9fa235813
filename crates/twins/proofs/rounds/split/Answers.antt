-- `split` meets its contract. The invariant: the types before `t` have their fresh labels and links, and the chains begin with the last of them.
use mathlib.Core.Path.{refl}
use native.Mathlib.Omega.{arith}
use lib.ListN.{length-set}
use Rattle.twins.proofs.RoundLaws.{classed-more}
use Rattle.twins.proofs.LinkLaws.{head-covers, headed-more, linked-more}
use Rattle.twins.proofs.rounds.split.Goals as goal

pub loop-t-preserved : goal.loop-t-preserved
loop-t-preserved c = (
  simp length-set c.loop-t.invariant.0,
  simp length-set c.loop-t.invariant.1,
  simp length-set c.loop-t.invariant.2,
  classed-more _ _ c.loop-t.fresh _ _ _
      (omega (arith, c.requires.rows_in_bounds.1, c.type_count-n.ensures, c.loop-t.invariant.0, c.loop-t-test.true))
      c.loop-t.invariant.3 c.first_fit-u.ensures refl,
  linked-more _ _ c.loop-t.links _ _
      (omega (arith, c.requires.rows_in_bounds.2, c.type_count-n.ensures, c.loop-t.invariant.2, c.loop-t-test.true))
      (head-covers _ _ c.loop-t.heads _ _ c.loop-t.invariant.5 c.bucket-b.ensures.0 c.bucket-b.ensures.1)
      c.loop-t.invariant.4,
  headed-more _ _ c.loop-t.heads _ _ (omega (arith, c.requires.buckets_in_bounds.0, c.bucket-b.ensures.1, c.loop-t.invariant.1)) c.bucket-b.ensures.0 c.loop-t.invariant.5,
)
