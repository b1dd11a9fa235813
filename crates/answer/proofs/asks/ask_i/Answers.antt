-- `ask_i` meets its contract.
use Rattle.answer.proofs.Answering.{i-due}
use Rattle.answer.proofs.asks.ask_i.Goals as goal

pub identical-b-requires : goal.identical-b-requires
identical-b-requires c = record { library = c.requires.library; x_bound = c.requires.x_bound; marks_value = c.requires.marks_value }

pub returns : goal.returns
returns c =
    record { does = i-due _ _ _ _ _ c.identical-b.ensures.value c.say_truth.ensures; marks_unchanged = c.identical-b.ensures.marks_unchanged }
