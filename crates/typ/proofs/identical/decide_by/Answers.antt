use Rattle.std.proofs.Common.{ap, not}
use Rattle.std.proofs.Common.{rules}
use native.Mathlib.Omega.{arith}
use Rattle.objects.proofs.RowLaws.{size-read}
use Rattle.rules.proofs.Sounds.{library-sound}
use Rattle.type_parts.proofs.KinLaws.{peers-kin}
use Rattle.typ.proofs.DepthLaws.{parts-within}
use Rattle.typ.proofs.Top.{well-none, begun, differed, agreed}
use Rattle.typ.proofs.identical.decide_by.Goals as goal

pub identical_impl_o-requires : goal.identical_impl_o-requires
identical_impl_o-requires c =
    let size_is = size-read c.args.text.now c.args.rows.now in
    record { library = c.requires.library; peers = c.requires.peers; well = well-none _ _ _ c.requires.by_index (omega (arith, size_is, c.number.auto.labels, c.requires.rows_in_bounds.0)) c.number.ensures; level_lt_deepest = parts-within _ _ c.requires.library _ (omega arith) _ _ (peers-kin _ _ _ c.requires.peers.0) }

pub returns-then-not-identical_impl_o : goal.returns-then-not-identical_impl_o
returns-then-not-identical_impl_o c =
    differed _ _ _ (library-sound c.requires.library) (c.identical_impl_o.ensures.differ-if c.if-not-identical_impl_o.true)

pub loop-init : goal.loop-init
loop-init c =
    let size_is = size-read c.args.text.now c.args.rows.now in
    (search rules, search rules, begun _ _ _ c.requires.by_index (omega (arith, size_is, c.number.auto.labels, c.requires.rows_in_bounds.0)) c.number.ensures _ _ _ _ _ c.identical_impl_o.ensures (ap not c.if-not-identical_impl_o.false))

pub open_round-requires : goal.open_round-requires
open_round-requires c =
    record { library = c.requires.library; rows_in_bounds = omega (arith, c.loop.invariant.0, c.identical_impl_o.auto.marks, c.requires.peers.1); state = c.loop.invariant.2 }

pub returns-in-Apart : goal.returns-in-Apart
returns-in-Apart c =
    differed _ _ _ (library-sound c.requires.library) (c.open_round.ensures.if-apart c.in-Apart.is)

pub returns-in-Settled : goal.returns-in-Settled
returns-in-Settled c =
    agreed _ _ _ _ _ c.loop.invariant.2 (c.open_round.ensures.if-settled c.in-Settled.is).2 (library-sound c.requires.library)

pub loop-smaller : goal.loop-smaller
loop-smaller c = (c.open_round.ensures.if-opened c.in-Opened.is).0

pub loop-preserved : goal.loop-preserved
loop-preserved c = (search rules, search rules, (c.open_round.ensures.if-opened c.in-Opened.is).1)
