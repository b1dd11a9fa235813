-- `selection::find` meets its contract. The invariant: what the whole list gives, the members from i on give.
use Rattle.selection.proofs.FindLaws.{Left}
use Rattle.selection.proofs.find.Given as goal

abbrev pub invariant-loop-i : goal.invariant-loop-i
invariant-loop-i l = Left l.text l.rows l.names l.q l.from l.count l.i
