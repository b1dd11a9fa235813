-- `ask_n` meets its contract.
use Rattle.answer.proofs.Answering.{scratch-all, n-due}
use Rattle.answer.proofs.asks.ask_n.Goals as goal

pub missing_method-m-requires : goal.missing_method-m-requires
missing_method-m-requires c =
    record { library = c.requires.library; t_bound = (c.requires.typ_bound.0, c.requires.typ_bound.1); mark_words_in_bounds = (c.requires.typ_bound.2, scratch-all c.requires.typ_bound.3); marks_value = c.requires.marks_value }

pub returns : goal.returns
returns c =
    record {
      does = n-due _ _ _ _ _ _ _ c.missing_method-m.ensures.result_value (c.say_missing.ensures c.args.text.now c.args.rows.now);
      marks_unchanged = c.missing_method-m.ensures.marks_unchanged;
    }
