use Rattle.std.proofs.Common.{rules}
use native.Mathlib.Omega.{arith}
use Rattle.objects.proofs.RowLaws.{size-read}
use Rattle.typ.proofs.Top.{turn-differ, turns-none, turns-settled, turns-opened, turns-all}
use Rattle.typ.proofs.opening.open_round.Goals as goal
use Rattle.typ.proofs.opening.open_round.Goals.{in-Settled, in-Opened}

pub loop-i-init : goal.loop-i-init
loop-i-init c = (search rules, search rules, turns-none _ _ _ _ _ c.requires.state)

pub open_at-requires : goal.open_at-requires
open_at-requires c =
    record { library = c.requires.library; i_bound = (omega (arith, c.loop-i-test.true, c.type_count-n.ensures), omega (arith, c.loop-i.invariant.0, c.requires.rows_in_bounds)); state = c.loop-i.invariant.2.state }

pub returns-in-Apart : goal.returns-in-Apart
returns-in-Apart c = turn-differ _ _ _ _ _ _ _ _ (c.open_at.ensures.if-apart c.in-Apart.is)

pub loop-i-preserved : goal.loop-i-preserved
loop-i-preserved c = (
  search rules,
  search rules,
  elim c.match-open_at.branch [
    | in-Settled w ↦ rw w.found-is (turns-settled _ _ _ _ _ _ _ _ _ c.loop-i.invariant.2 _ _ _ c.open_at.ensures w.in-Settled.is)
    | in-Opened w ↦ rw w.found-is (turns-opened _ _ _ _ _ _ _ _ _ c.loop-i.invariant.2 _ _ _ c.open_at.ensures w.in-Opened.is)
  ],
)

pub returns : goal.returns
returns c =
    turns-all _ _ _ _ _ _ _ _ _ c.loop-i.invariant.2 (omega (arith, size-read c.args.text.now c.args.rows.now, c.type_count-n.ensures, c.loop-i-test.false))
