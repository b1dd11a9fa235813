use mathlib.Core.Path.{refl, sym}
use Prim.Native.Nat.{◌-◌, ◌≤◌}
use native.Mathlib.Omega.{arith}
use native.Mathlib.Nat.{le_trans}
use lib.ListN.{length}
use lib.Seq.{length-take-le}
use Rattle.objects.specs.Bounds.{max_types}
use Rattle.objects.specs.Rows.{type_count}
use Rattle.rules.proofs.Sounds.{library-sound}
use Rattle.type_parts.proofs.KinLaws.{peers-of}
use Rattle.pair_marks.proofs.Zero.{zero-front, front-back}
use Rattle.pair_marks.proofs.PairLaws.{words_more, words_of}
use Rattle.typ.proofs.Cycle.{one-key, mismatch-apart}
use Rattle.typ.proofs.Top.{selfsame, differed}
use Rattle.typ.proofs.identical.identical.Goals as goal
use Rattle.typ.proofs.identical.identical.Goals.{then-mismatch-via-then-mismatch, then-mismatch-via-else-mismatch+then-apart}

pub returns-then-eq : goal.returns-then-eq
returns-then-eq c =
    record { value = selfsame _ _ _ (library-sound c.requires.library) (one-key c.eq.ensures c.if-eq.true); marks_unchanged = refl }

pub returns-then-mismatch : goal.returns-then-mismatch
returns-then-mismatch c = record {
  value = elim c.then-mismatch.branch [
    | then-mismatch-via-then-mismatch w ↦ differed _ _ _ (library-sound c.requires.library) (mismatch-apart _ _ _ _ c.mismatch.ensures w.if-mismatch.true)
    | then-mismatch-via-else-mismatch+then-apart w ↦ sym (w.apart.ensures w.if-apart.true)
  ];
  marks_unchanged = refl;
}

-- past the test of what is no part the two types are peers
pub apart-requires : goal.apart-requires
apart-requires c = record { library = c.requires.library; peers = (peers-of _ _ _ _ c.requires.x_bound.0 c.requires.x_bound.1 c.mismatch.ensures c.if-mismatch.false) }

-- the marks of the table's pairs are among those lent
pub slice_bounds-settle-end : goal.slice_bounds-settle-end
slice_bounds-settle-end c =
    let words_are = words_of (type_count c.args.rows.now) c.pair_words-words.ensures (omega (arith, c.type_count.ensures)) in
    let within : c.pair_words-words.result ≤ length c.args.marks.now = rw words_are (le_trans (words_more _ max_types c.requires.library.laid.types) c.requires.x_bound.2) in
    within

pub settle-requires : goal.settle-requires
settle-requires c =
    let n = c.pair_words-words.result - 0 in
    let words_are = words_of (type_count c.args.rows.now) c.pair_words-words.ensures (omega (arith, c.type_count.ensures)) in
    let within : c.pair_words-words.result ≤ length c.args.marks.now = rw words_are (le_trans (words_more _ max_types c.requires.library.laid.types) c.requires.x_bound.2) in
    let long = length-take-le n c.args.marks.now (omega (arith, within)) in
    record { library = c.requires.library; peers = (peers-of _ _ _ _ c.requires.x_bound.0 c.requires.x_bound.1 c.mismatch.ensures c.if-mismatch.false, omega (arith, long, words_are)); marks_value = zero-front n _ c.requires.marks_value }

pub returns : goal.returns
returns c =
    let n = c.pair_words-words.result - 0 in
    record { value = c.settle.ensures.value; marks_unchanged = front-back n _ _ c.settle.ensures.marks_unchanged }
