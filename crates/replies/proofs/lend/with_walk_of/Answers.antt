-- `with_walk_of` meets its contract: two records for each type, and words for the places of two ways.
use mathlib.Core.Path.{ap}
use Prim.Native.Nat.{◌*◌}
use native.Mathlib.Omega.{arith}
use Rattle.replies.specs.Replies.{said_of}
use Rattle.replies.proofs.Lending.{walks-new, need-walk, ends-does}
use Rattle.replies.proofs.lend.with_walk_of.Goals as goal

pub answered-requires-clause-mark_words_in_bounds : goal.answered-requires-clause-mark_words_in_bounds
answered-requires-clause-mark_words_in_bounds g c =
    let walks = walks-new c.args.rows.now g.row.RECORDS (2 * c.type_count.result) (ap (λ n. 2 * n) c.type_count.ensures) (omega (arith, c.type_count.ensures)) (omega (arith, c.type_count.ensures)) in
    (c.requires.mark_words_in_bounds.0, need-walk _ _ _ _ c.requires.mark_words_in_bounds.1 walks (omega arith))

pub returns-clause-ends : goal.returns-clause-ends
unfolding said_of
returns-clause-ends g c = ends-does c.answered.ensures.does
