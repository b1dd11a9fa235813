-- `ask_s` meets its contract.
use Rattle.answer.proofs.Answering.{scratch-behind, s-due}
use Rattle.answer.proofs.asks.ask_s.Goals as goal

pub select_behind-s-requires : goal.select_behind-s-requires
select_behind-s-requires c =
    record { library = c.requires.library; t_bound = (c.requires.typ_bound.0, c.requires.typ_bound.1, scratch-behind c.requires.typ_bound.2) }

pub returns : goal.returns
returns c =
    s-due _ _ _ _ _ _ _ c.select_behind-s.new.numbers c.select_behind-s.ensures (c.say_selected.ensures c.args.text.now c.args.rows.now)
