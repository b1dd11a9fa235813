-- `question::known` meets its contract: the words of the rows count the table's types and packages.
use mathlib.Core.Path.{sym, ◌∙◌}
use Rattle.question.proofs.KnownLaws.{known_is, known_facts}
use Rattle.question.proofs.known.Goals as goal

pub returns : goal.returns
returns c =
    record { value = λ text line q h. c.known_words.ensures ∙ known_is text c.args.rows.now line c.args.a q h; known = λ e. known_facts c.args.rows.now c.args.a (sym c.known_words.ensures ∙ e) }
