-- `lookup::missing::name_of` meets its contract.
use Rattle.lookup.specs.Answers.{name_read}
use Rattle.lookup.proofs.missing.name_of.Goals as goal

pub returns : goal.returns
unfolding name_read
returns c = rw (c.member_word.ensures, c.member_word-2.ensures, c.member_package.ensures)
