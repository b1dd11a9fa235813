-- `put_elements` meets its contract.
use Rattle.std.proofs.Common.{rules}
use mathlib.Core.Path.{refl, ap}
use native.Mathlib.Omega.{arith}
use lib.ListN.{length, length-append}
use mathlib.Core.List.{[], ◌∷◌}
use Rattle.print.proofs.WrittenLaws.{wrote_as, wrote-length, then-wrote}
use Rattle.table_text.specs.Rows.{pieces_from}
use Rattle.table_text.proofs.Writing.{element_piece, elements-pieces}
use Rattle.table_text.proofs.lines.put_elements.Goals as goal

pub put_pieces-i-requires-clause-may_put : goal.put_pieces-i-requires-clause-may_put
put_pieces-i-requires-clause-may_put c =
    let f = element_piece c.args.numbers.now c.args.rows.now in
    let whole = ap length (elements-pieces c.args.numbers.now c.args.rows.now c.args.first c.args.count) in
    (f, search rules, search rules, omega (arith, c.requires.1, whole, length-append (pieces_from f c.args.first c.args.count) (10 ∷ [])))

pub put_end-requires : goal.put_end-requires
put_end-requires c =
    let f = element_piece c.args.numbers.now c.args.rows.now in
    let whole = ap length (elements-pieces c.args.numbers.now c.args.rows.now c.args.first c.args.count) in
    let wrote = c.put_pieces-i.ensures f (search rules) in
    omega (arith, wrote.past, wrote-length wrote, c.requires.1, whole, length-append (pieces_from f c.args.first c.args.count) (10 ∷ []))

pub returns : goal.returns
returns c =
    let f = element_piece c.args.numbers.now c.args.rows.now in
    wrote_as (elements-pieces c.args.numbers.now c.args.rows.now c.args.first c.args.count) refl (then-wrote (c.put_pieces-i.ensures f (search rules)) c.put_end.ensures)
