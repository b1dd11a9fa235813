-- `say_selected` meets its contract: one line for each case of a selection, two for an ambiguous one.
use mathlib.Core.Path.{◌∙◌}
use native.Mathlib.Omega.{arith}
use lib.ListN.{length-set}
use Rattle.reply.proofs.Members.{first_in, second_in, notfound-said, badreceiver-said, ambiguous-said, entry-said, flag-bit}
use Rattle.reply.proofs.selected.say_selected.Goals as goal

pub bounds-numbers-1 : goal.bounds-numbers-1
bounds-numbers-1 c = simp length-set (omega arith)

pub say-requires : goal.say-requires
say-requires c = (omega arith, omega arith, simp length-set (omega arith))

pub returns-in-Entry : goal.returns-in-Entry
returns-in-Entry c =
    λ text rows. entry-said _ text rows c.args.numbers.now c.args.s.count c.in-Entry.is c.number_of.ensures (c.from.ensures ∙ flag-bit _) (omega arith) c.say.ensures

pub returns-in-Ambiguous : goal.returns-in-Ambiguous
returns-in-Ambiguous c =
    λ text rows. ambiguous-said _ text rows c.args.numbers.now c.args.s.count c.in-Ambiguous.is c.say_both.ensures

pub returns-in-BadMethodReceiver : goal.returns-in-BadMethodReceiver
returns-in-BadMethodReceiver c =
    λ text rows. badreceiver-said _ text rows (first_in c.args.numbers.now c.args.s.count) (second_in c.args.numbers.now c.args.s.count) c.in-BadMethodReceiver.is c.say_word.ensures

pub returns-in-NotFound : goal.returns-in-NotFound
returns-in-NotFound c =
    λ text rows. notfound-said _ text rows (first_in c.args.numbers.now c.args.s.count) (second_in c.args.numbers.now c.args.s.count) c.in-NotFound.is c.say_word-in-NotFound.ensures
