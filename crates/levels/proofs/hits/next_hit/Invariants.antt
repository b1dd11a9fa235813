-- `levels::hits::next_hit` meets its contract. The invariant: no row from lo up to this one has the name.
use Rattle.selection.specs.Results.{name_meant}
use Rattle.levels.proofs.HitLaws.{Looked}
use Rattle.levels.proofs.hits.next_hit.Given as goal

abbrev pub invariant-loop-row : goal.invariant-loop-row
invariant-loop-row l = Looked l.text l.rows (name_meant l.text l.rows l.names l.q) l.walk l.n l.lo l.row
