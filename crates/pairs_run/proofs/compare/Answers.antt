-- `compare` calls `identical_impl` with no pair met and every type a class of its own.
use mathlib.Core.Path.{refl}
use native.Mathlib.Omega.{arith}
use Rattle.objects.specs.Bounds.{max_types}
use Rattle.objects.proofs.RowLaws.{size-read}
use Rattle.pair_marks.proofs.Zero.{none-met}
use Rattle.pair_marks.proofs.PairLaws.{words_more}
use Rattle.typ.proofs.DepthLaws.{within}
use Rattle.typ.proofs.Top.{well-none}
use Rattle.pairs_run.proofs.compare.Goals as goal

pub identical_impl-same-requires : goal.identical_impl-same-requires
identical_impl-same-requires g c =
    let size = size-read c.args.text.now c.args.rows.now in
    record { library = c.requires; x_bound = (omega arith, omega arith, omega (arith, words_more _ max_types c.requires.laid.types)); well = well-none _ _ _ (none-met _ refl) (omega (arith, size, c.requires.laid.types)) c.number.ensures; level_lt_deepest = within _ _ c.requires _ (omega arith) _ _ (omega arith) (omega arith) }
