use mathlib.Core.Path.{sym, ◌∙◌}
use mathlib.Core.Logic.{◌≢◌}
use native.Mathlib.Omega.{arith}
use lib.ListN.{get_or}
use Rattle.objects.specs.Table.{type_key}
use Rattle.type_parts.proofs.KinLaws.{peers-kin}
use Rattle.typ.proofs.DepthLaws.{parts-within}
use Rattle.typ.proofs.Cycle.{key-small, in_size, in-labels, root-small, root-mark}
use Rattle.typ.proofs.Top.{skip-own, skip-met, root-peers, open-well, open-same, open-differ}
use Rattle.typ.proofs.opening.open_at.Goals as goal

pub bounds-labels-i : goal.bounds-labels-i
bounds-labels-i c =
    in-labels _ _ c.requires.library (type_key _) c.requires.i_bound.0 _ _ c.requires.state.well

pub returns-then-root-i : goal.returns-then-root-i
returns-then-root-i c =
    skip-own _ _ _ _ _ _ c.requires.state (in_size _ _ c.requires.library (type_key _) c.requires.i_bound.0) (omega arith)

pub pair_number-p-requires : goal.pair_number-p-requires
pair_number-p-requires c =
    (key-small _ _ c.requires.library (type_key _) (root-small _ _ c.requires.library _ _ c.requires.state.well _ c.requires.i_bound.0), key-small _ _ c.requires.library (type_key _) c.requires.i_bound.0)

-- the label names another type, and there is a mark for the pair
pub is_met-requires : goal.is_met-requires
is_met-requires c =
    let other : get_or c.args.labels.now c.args.i 0 ≢ c.args.i = λ e. omega (arith, e, c.if-root-i.false) in
    let mark = root-mark _ _ c.requires.library _ _ c.requires.state.well _ c.requires.i_bound.0 other _ c.pair_number-p.ensures c.requires.i_bound.1 in
    mark

pub returns-then-is_met : goal.returns-then-is_met
returns-then-is_met c =
    skip-met _ _ _ _ _ _ c.requires.state (in_size _ _ c.requires.library (type_key _) c.requires.i_bound.0) _ c.pair_number-p.ensures _ c.is_met.ensures c.if-is_met.true

pub set_met-requires : goal.set_met-requires
set_met-requires c =
    let other : get_or c.args.labels.now c.args.i 0 ≢ c.args.i = λ e. omega (arith, e, c.if-root-i.false) in
    let mark = root-mark _ _ c.requires.library _ _ c.requires.state.well _ c.requires.i_bound.0 other _ c.pair_number-p.ensures c.requires.i_bound.1 in
    (mark, sym c.is_met.ensures ∙ c.if-is_met.false)

pub identical_impl_o-requires : goal.identical_impl_o-requires
identical_impl_o-requires c =
    let other : get_or c.args.labels.now c.args.i 0 ≢ c.args.i = λ e. omega (arith, e, c.if-root-i.false) in
    let mark = root-mark _ _ c.requires.library _ _ c.requires.state.well _ c.requires.i_bound.0 other _ c.pair_number-p.ensures c.requires.i_bound.1 in
    let inside = in_size _ _ c.requires.library (type_key _) c.requires.i_bound.0 in
    let peers = root-peers _ _ _ _ _ _ c.requires.state inside in
    let well = open-well _ _ _ _ _ _ c.requires.state inside other _ c.pair_number-p.ensures mark _ c.is_met.ensures c.if-is_met.false _ c.set_met.ensures in
    record { library = c.requires.library; peers = (peers, omega (arith, c.set_met.auto.marks, c.requires.i_bound.1)); well = well; level_lt_deepest = parts-within _ _ c.requires.library _ (omega arith) _ _ (peers-kin _ _ _ peers) }

pub returns-then-identical_impl_o : goal.returns-then-identical_impl_o
returns-then-identical_impl_o c =
    let other : get_or c.args.labels.now c.args.i 0 ≢ c.args.i = λ e. omega (arith, e, c.if-root-i.false) in
    let mark = root-mark _ _ c.requires.library _ _ c.requires.state.well _ c.requires.i_bound.0 other _ c.pair_number-p.ensures c.requires.i_bound.1 in
    open-same _ _ _ _ _ _ c.requires.state (in_size _ _ c.requires.library (type_key _) c.requires.i_bound.0) other _ c.pair_number-p.ensures mark _ c.is_met.ensures c.if-is_met.false _ c.set_met.ensures _ _ _ c.identical_impl_o.ensures c.if-identical_impl_o.true

pub returns-else-identical_impl_o : goal.returns-else-identical_impl_o
returns-else-identical_impl_o c =
    let other : get_or c.args.labels.now c.args.i 0 ≢ c.args.i = λ e. omega (arith, e, c.if-root-i.false) in
    let mark = root-mark _ _ c.requires.library _ _ c.requires.state.well _ c.requires.i_bound.0 other _ c.pair_number-p.ensures c.requires.i_bound.1 in
    open-differ _ _ _ _ _ _ c.requires.state (in_size _ _ c.requires.library (type_key _) c.requires.i_bound.0) other _ c.pair_number-p.ensures mark _ c.is_met.ensures c.if-is_met.false _ c.set_met.ensures _ _ _ c.identical_impl_o.ensures c.if-identical_impl_o.false
