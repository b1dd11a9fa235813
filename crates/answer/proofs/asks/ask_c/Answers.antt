-- `ask_c` meets its contract: the marks are more than the types.
use native.Mathlib.Omega.{arith}
use Rattle.answer.proofs.Answering.{c-due}
use Rattle.answer.proofs.asks.ask_c.Goals as goal

pub comparable-b-requires : goal.comparable-b-requires
comparable-b-requires c =
    record { library = c.requires.library; t_bound = (c.requires.t_bound.0, omega arith); met_value = c.requires.marks_value }

pub returns : goal.returns
returns c =
    record { does = c-due _ _ _ _ c.comparable-b.ensures.value c.say_truth.ensures; marks_unchanged = c.comparable-b.ensures.met_unchanged }
