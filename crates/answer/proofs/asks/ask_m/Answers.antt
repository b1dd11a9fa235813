-- `ask_m` meets its contract.
use Rattle.answer.proofs.Answering.{held-lent, m-due}
use Rattle.answer.proofs.asks.ask_m.Goals as goal

pub new-n-requires : goal.new-n-requires
new-n-requires c =
    record { library = c.requires.library; t_bound = (c.requires.t_bound.0, c.requires.t_bound.1.walks.room, c.requires.t_bound.1.walks.most, held-lent c.args.text.now c.requires.t_bound.1) }

pub returns : goal.returns
returns c =
    record { does = m-due _ _ _ _ _ _ _ c.new-n.result c.new-n.ensures.set_held c.say_set.ensures; rooms = c.new-n.ensures.rooms }
