-- `with_all_of` meets its contract: two records for each type, a first hit for each member, and words for places and names.
use mathlib.Core.Path.{ap}
use Prim.Native.Nat.{◌*◌}
use native.Mathlib.Omega.{arith}
use lib.ListN.{replicate}
use Rattle.replies.proofs.Replying.{lent-enough}
use Rattle.replies.proofs.Filling.{ends-all, ends-one}
use Rattle.replies.proofs.Lending.{walks-new, rooms-new, lent-new, ends-does}
use Rattle.replies.proofs.lend.with_all_of.Goals as goal

pub reply_all-requires : goal.reply_all-requires
reply_all-requires g c =
    let walks = walks-new c.args.rows.now g.row.RECORDS (2 * c.type_count.result) (ap (λ n. 2 * n) c.type_count.ensures) (omega (arith, c.type_count.ensures)) (omega (arith, c.type_count.ensures)) in
    let lent = lent-new (replicate g.row.WORDS 0) walks (rooms-new c.args.rows.now g.row.MEMBERS c.requires.members.0) (omega arith) (omega arith) in
    record { library = c.requires.library; mark_words_in_bounds = (c.requires.mark_words_in_bounds, lent); marks_value = c.requires.marks_value }

pub returns-in-All-clause-ends : goal.returns-in-All-clause-ends
returns-in-All-clause-ends g c = ends-all _ _ c.in-All.is c.reply_all.ensures.ends

pub answered-requires-clause-mark_words_in_bounds : goal.answered-requires-clause-mark_words_in_bounds
answered-requires-clause-mark_words_in_bounds g c =
    let walks = walks-new c.args.rows.now g.row.RECORDS (2 * c.type_count.result) (ap (λ n. 2 * n) c.type_count.ensures) (omega (arith, c.type_count.ensures)) (omega (arith, c.type_count.ensures)) in
    let lent = lent-new (replicate g.row.WORDS 0) walks (rooms-new c.args.rows.now g.row.MEMBERS c.requires.members.0) (omega arith) (omega arith) in
    (c.requires.mark_words_in_bounds, lent-enough _ _ _ _ lent _)

pub returns-in-One-clause-ends : goal.returns-in-One-clause-ends
returns-in-One-clause-ends g c = ends-one _ _ c.in-One.is (ends-does c.answered.ensures.does)
