use Rattle.std.proofs.Common.{ap, not, rules}
use mathlib.Core.Path.{◌∙◌}
use native.Mathlib.Omega.{arith}
use lib.Dec.{eqb}
use borrow.Author.Tests.{eqb-true, eqb-false}
use Rattle.objects.proofs.ListLaws.{cases}
use Rattle.type_parts.proofs.KinLaws.{peers-kin, peers-of, left-place, right-place, left-inside, right-inside}
use Rattle.typ.proofs.Marked.{went-self, went-apart}
use Rattle.typ.proofs.Passing.{passed_none, at-end, at-differ, at_same}
use Rattle.typ.proofs.DepthLaws.{parts-within, next-within, part-within}
use Rattle.typ.proofs.Cycle.{one-key, two_keys, mismatch-apart, at-once-told, at-once-else, self-match, key-small, in-labels, in-marks, known-match, known-went, entered-not, entered-well, entered-went, entered-falls, part_falls}
use Rattle.typ.proofs.identical.+identical_impl_identical_impl_o.Goals as goal

pub identical_impl-returns-then-eq : goal.identical_impl-returns-then-eq
identical_impl-returns-then-eq t c =
    record { compared = went-self _ _ _ _ _ c.requires.well (one-key c.eq.ensures c.if-eq.true); at_once = at-once-else _ _ _ _ _ _ _ _ (self-match _ _ _ (one-key c.eq.ensures c.if-eq.true)) }

pub identical_impl-known-requires : goal.identical_impl-known-requires
identical_impl-known-requires t c =
    record { x_lt_max_types = (key-small _ _ c.requires.library _ c.requires.x_bound.0, key-small _ _ c.requires.library _ c.requires.x_bound.1, in-marks _ _ c.requires.library _ _ c.requires.x_bound.0 c.requires.x_bound.1 (two_keys c.eq.ensures c.if-eq.false) c.args.marks.now c.requires.x_bound.2); x_in_bounds = (in-labels _ _ c.requires.library _ c.requires.x_bound.0 _ _ c.requires.well, in-labels _ _ c.requires.library _ c.requires.x_bound.1 _ _ c.requires.well) }

pub identical_impl-returns-then-known : goal.identical_impl-returns-then-known
identical_impl-returns-then-known t c =
    let known = c.known.ensures.one_class c.if-known.true in
    record { compared = known-went _ _ c.requires.library _ _ c.requires.x_bound.0 c.requires.x_bound.1 (two_keys c.eq.ensures c.if-eq.false) _ _ c.requires.well known; at_once = at-once-else _ _ _ _ _ _ _ _ (known-match _ _ c.requires.library _ _ c.requires.x_bound.0 c.requires.x_bound.1 (two_keys c.eq.ensures c.if-eq.false) _ _ c.requires.well known) }

pub identical_impl-mismatch-told_apart-requires : goal.identical_impl-mismatch-told_apart-requires
identical_impl-mismatch-told_apart-requires t c =
    record { library = c.requires.library; x_bound = (omega (arith, c.requires.x_bound.0, c.requires.x_bound.1), omega (arith, c.requires.x_bound.0, c.requires.x_bound.1)) }

pub identical_impl-returns-then-told_apart : goal.identical_impl-returns-then-told_apart
identical_impl-returns-then-told_apart t c =
    record { compared = went-apart _ _ _ _ _ c.requires.well (mismatch-apart _ _ _ _ c.mismatch-told_apart.ensures c.if-told_apart.true); at_once = at-once-told _ _ _ _ _ }

pub identical_impl-enter_pair-requires : goal.identical_impl-enter_pair-requires
identical_impl-enter_pair-requires t c =
    record { x_lt_max_types = (key-small _ _ c.requires.library _ c.requires.x_bound.0, key-small _ _ c.requires.library _ c.requires.x_bound.1, in-marks _ _ c.requires.library _ _ c.requires.x_bound.0 c.requires.x_bound.1 (two_keys c.eq.ensures c.if-eq.false) c.args.marks.now c.requires.x_bound.2, c.known.ensures.y_value c.if-known.false); x_in_bounds = (in-labels _ _ c.requires.library _ c.requires.x_bound.0 _ _ c.requires.well, in-labels _ _ c.requires.library _ c.requires.x_bound.1 _ _ c.requires.well) }

pub identical_impl-returns-then-not-enter_pair : goal.identical_impl-returns-then-not-enter_pair
identical_impl-returns-then-not-enter_pair t c =
    let peers = peers-of _ _ _ _ c.requires.x_bound.0 c.requires.x_bound.1 c.mismatch-told_apart.ensures c.if-told_apart.false in
    record { compared = entered-not _ _ c.requires.library _ _ peers (two_keys c.eq.ensures c.if-eq.false) _ (in-marks _ _ c.requires.library _ _ c.requires.x_bound.0 c.requires.x_bound.1 (two_keys c.eq.ensures c.if-eq.false) c.args.marks.now c.requires.x_bound.2) _ _ c.requires.well (c.known.ensures.y_value c.if-known.false) _ _ c.enter_pair.ensures.entered (ap not c.if-not-enter_pair.true); at_once = at-once-else _ _ _ _ _ _ _ _ peers.alike }

pub identical_impl-overflow_add-level : goal.identical_impl-overflow_add-level
identical_impl-overflow_add-level t c =
    omega (arith, c.requires.level_lt_deepest.0)

pub identical_impl-identical_impl_o-requires : goal.identical_impl-identical_impl_o-requires
identical_impl-identical_impl_o-requires t c =
    let peers = peers-of _ _ _ _ c.requires.x_bound.0 c.requires.x_bound.1 c.mismatch-told_apart.ensures c.if-told_apart.false in
    let marked = in-marks _ _ c.requires.library _ _ c.requires.x_bound.0 c.requires.x_bound.1 (two_keys c.eq.ensures c.if-eq.false) c.args.marks.now c.requires.x_bound.2 in
    let unmet-before = c.known.ensures.y_value c.if-known.false in
    let kin = peers-kin _ _ _ peers in (
      entered-falls _ _ c.requires.library _ _ peers (two_keys c.eq.ensures c.if-eq.false) _ marked _ _ c.requires.well unmet-before _ _ c.enter_pair.ensures.entered (ap not c.if-not-enter_pair.false) _ c.decreases,
      (
        c.requires.library,
        (
          (peers, omega (arith, c.enter_pair.auto.marks, c.requires.x_bound.2)),
          (
            entered-well _ _ c.requires.library _ _ peers (two_keys c.eq.ensures c.if-eq.false) _ marked _ _ c.requires.well unmet-before _ _ c.enter_pair.ensures.entered (ap not c.if-not-enter_pair.false),
            cases (eqb c.kind_number-k.result 9)
                (λ e. let shallow = c.enter_pair.ensures.level_lt_open_levels c.if-not-enter_pair.false (eqb-true _ 9 e) in parts-within _ _ c.requires.library _ (omega (arith, shallow)) _ _ kin)
                (λ e. next-within _ _ c.requires.library _ _ kin (two_keys c.eq.ensures c.if-eq.false) (λ q. eqb-false _ 9 e (c.kind_number-k.ensures ∙ q)) _ c.requires.level_lt_deepest.1),
          ),
        ),
      ),
    )

pub identical_impl-returns : goal.identical_impl-returns
identical_impl-returns t c =
    let peers = peers-of _ _ _ _ c.requires.x_bound.0 c.requires.x_bound.1 c.mismatch-told_apart.ensures c.if-told_apart.false in
    record { compared = entered-went _ _ c.requires.library _ _ peers (two_keys c.eq.ensures c.if-eq.false) _ (in-marks _ _ c.requires.library _ _ c.requires.x_bound.0 c.requires.x_bound.1 (two_keys c.eq.ensures c.if-eq.false) c.args.marks.now c.requires.x_bound.2) _ _ c.requires.well (c.known.ensures.y_value c.if-known.false) _ _ c.enter_pair.ensures.entered (ap not c.if-not-enter_pair.false) _ _ _ c.identical_impl_o.ensures; at_once = at-once-else _ _ _ _ _ _ _ _ peers.alike }

pub identical_impl_o-loop-i-init : goal.identical_impl_o-loop-i-init
identical_impl_o-loop-i-init t c =
    (search rules, search rules, passed_none _ _ _ _ _ _ c.requires.well)

pub identical_impl_o-part_in-p-requires : goal.identical_impl_o-part_in-p-requires
identical_impl_o-part_in-p-requires t c =
    record { k_value = (c.type_word-j.ensures, c.first_member-first.ensures); i_bound = left-place _ _ c.requires.library _ _ (peers-kin _ _ _ c.requires.peers.0) _ _ c.part_count-n.ensures c.loop-i-test.true }

pub identical_impl_o-part_in-q-requires : goal.identical_impl_o-part_in-q-requires
identical_impl_o-part_in-q-requires t c =
    record { k_value = (c.type_word-k.ensures, c.first_member-second.ensures); i_bound = right-place _ _ c.requires.library _ _ (peers-kin _ _ _ c.requires.peers.0) _ _ c.part_count-n.ensures c.loop-i-test.true }

pub identical_impl_o-identical_impl-requires : goal.identical_impl_o-identical_impl-requires
identical_impl_o-identical_impl-requires t c =
    let kin = peers-kin _ _ _ c.requires.peers.0 in (
      part_falls _ _ c.requires.library _ _ c.requires.peers.0 _ _ c.part_count-n.ensures c.loop-i-test.true _ _ _ _ _ _ c.part_in-p.ensures c.loop-i.invariant.2 c.decreases,
      (
        c.requires.library,
        (
          (
            left-inside _ _ c.requires.library _ _ kin _ _ c.part_count-n.ensures c.loop-i-test.true _ c.part_in-p.ensures,
            right-inside _ _ c.requires.library _ _ kin _ _ c.part_count-n.ensures c.loop-i-test.true _ c.part_in-q.ensures,
            omega (arith, c.loop-i.invariant.0, c.requires.peers.1),
          ),
          (
            c.loop-i.invariant.2.well,
            (c.requires.level_lt_deepest.0, part-within _ _ _ _ c.requires.level_lt_deepest.1 _ _ c.part_count-n.ensures c.loop-i-test.true _ _ c.part_in-p.ensures c.part_in-q.ensures),
          ),
        ),
      ),
    )

pub identical_impl_o-returns-then-not-identical_impl : goal.identical_impl_o-returns-then-not-identical_impl
identical_impl_o-returns-then-not-identical_impl t c =
    at-differ _ _ _ _ c.requires.peers.0 _ _ c.part_count-n.ensures c.loop-i-test.true _ _ _ _ _ _ _ _ _ c.loop-i.invariant.2 c.part_in-p.ensures c.part_in-q.ensures c.identical_impl.ensures.compared (ap not c.if-not-identical_impl.true)

pub identical_impl_o-loop-i-preserved : goal.identical_impl_o-loop-i-preserved
identical_impl_o-loop-i-preserved t c =
    (search rules, search rules, at_same _ _ _ _ c.requires.peers.0 _ _ c.part_count-n.ensures c.loop-i-test.true _ _ _ _ _ _ _ _ _ c.loop-i.invariant.2 c.part_in-p.ensures c.part_in-q.ensures c.identical_impl.ensures.compared (ap not c.if-not-identical_impl.false))

pub identical_impl_o-returns : goal.identical_impl_o-returns
identical_impl_o-returns t c =
    at-end _ _ _ _ c.requires.peers.0 _ _ _ _ _ _ c.loop-i.invariant.2 c.part_count-n.ensures (omega arith) c.loop-i-test.false
