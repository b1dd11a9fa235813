-- `ask_v` meets its contract.
use Rattle.answer.proofs.Answering.{v-due}
use Rattle.answer.proofs.asks.ask_v.Goals as goal

pub returns : goal.returns
returns c = v-due c.args.text.now _ _ c.say_counts.ensures
