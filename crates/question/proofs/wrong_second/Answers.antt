-- `question::wrong-second` meets its contract: only an N question has a second type that must be an interface.
use mathlib.Core.Path.{sym, ap, ◌∙◌}
use mathlib.Core.Bool.{not}
use lib.Dec.{eqb}
use Rattle.std.specs.Prelude.{Some}
use Rattle.question.specs.Asks.{second_read}
use Rattle.question.proofs.KnownLaws.{second_is, second_none}
use Rattle.question.proofs.wrong_second.Goals as goal

pub returns-in_default : goal.returns-in_default
unfolding second_read
returns-in_default c =
    λ text line q h. ap (second_read c.args.rows.now) (sym c.in_default.is) ∙ second_is text c.args.rows.now line c.args.a q c.requires h

pub returns-in-N : goal.returns-in-N
unfolding second_read
returns-in-N c =
    λ text line q h. ap (λ n. not (eqb n 9)) c.kind_number.ensures ∙ ap (second_read c.args.rows.now) (sym (c.in-Some.is ∙ ap Some c.in-N.is)) ∙ second_is text c.args.rows.now line c.args.a q c.requires h

pub returns-in_default-asked : goal.returns-in_default-asked
returns-in_default-asked c =
    λ text line q h. second_none c.args.rows.now _ c.in_default-asked.not-N ∙ ap (second_read c.args.rows.now) (sym c.in-Some.is) ∙ second_is text c.args.rows.now line c.args.a q c.requires h
