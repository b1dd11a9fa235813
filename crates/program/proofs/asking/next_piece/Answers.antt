-- `next_piece` meets its contract: the answers that the buffer holds, or 13 where the first alone is longer. What `fill` left of marks and scratch stays.
use native.Mathlib.Omega.{arith}
use Rattle.objects.specs.Rows.{table_of}
use Rattle.program.proofs.PieceLaws.{made-length, some-printed, none-printed, refused-printed}
use Rattle.program.proofs.asking.next_piece.Goals as goal

pub returns-then-f-gt0-clause-prints : goal.returns-then-f-gt0-clause-prints
returns-then-f-gt0-clause-prints c =
    some-printed (table_of c.args.text.now c.args.rows.now) _ _ c.requires.mark_words_in_bounds.2 c.fill-f.ensures.fills c.if-f-gt0.true

pub returns-in_default-clause-prints : goal.returns-in_default-clause-prints
returns-in_default-clause-prints c =
    none-printed (table_of c.args.text.now c.args.rows.now) _ _ c.requires.mark_words_in_bounds.2 c.fill-f.ensures.fills c.next_question.ensures c.in_default.is

pub put_refused-n-requires : goal.put_refused-n-requires
put_refused-n-requires c =
    omega (arith, made-length (table_of c.args.text.now c.args.rows.now) _ _ c.requires.mark_words_in_bounds.2 c.fill-f.ensures.fills)

pub returns-clause-prints : goal.returns-clause-prints
returns-clause-prints c =
    refused-printed (table_of c.args.text.now c.args.rows.now) _ _ c.requires.mark_words_in_bounds.2 c.fill-f.ensures.fills c.next_question.ensures (omega arith) c.in-Some.is c.put_refused-n.ensures
