-- `say_missing` meets its contract.
use mathlib.Core.Path.{◌∙◌}
use Rattle.reply.proofs.Members.{satisfied-said, missing-said, flag-bit}
use Rattle.reply.proofs.one_line.say_missing.Goals as goal

pub returns-in-None : goal.returns-in-None
returns-in-None c = λ text rows. satisfied-said _ text rows c.in-None.is c.say_word.ensures

pub returns-in-Some : goal.returns-in-Some
returns-in-Some c = λ text rows. missing-said _ text rows c.in-Some.is (c.from.ensures ∙ flag-bit _) c.say.ensures
