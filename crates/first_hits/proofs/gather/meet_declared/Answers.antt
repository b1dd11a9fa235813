-- `first_hits::gather::meet_declared` meets its contract. A stretch of no members leaves all as it is.
use mathlib.Core.Path.{◌≡◌, sym, ◌∙◌}
use mathlib.Core.List.{[]}
use Rattle.first_hits.specs.Hits.{declared_met}
use Rattle.first_hits.proofs.SettleLaws.{carries-none}
use Rattle.first_hits.proofs.MetLaws.{stretch-none}
use Rattle.first_hits.proofs.gather.meet_declared.Goals as goal

pub returns-then-s-eq0-clause-settles : goal.returns-then-s-eq0-clause-settles
returns-then-s-eq0-clause-settles c =
    let none : declared_met c.args.rows.now c.args.walk.now c.args.i ≡ [] = sym c.declared-s.ensures.met ∙ rw c.if-s-eq0.true (stretch-none c.declared-s.result.row c.declared-s.result.first) in
    carries-none c.args.text.now c.args.rows.now c.args.walk.now none c.args.names.now c.args.n c.args.hits.now

pub meet_stretch-requires-clause-held : goal.meet_stretch-requires-clause-held
meet_stretch-requires-clause-held c = (c.requires.held.0, c.declared-s.ensures.within _ c.requires.library c.requires.held.1)

pub returns-clause-settles : goal.returns-clause-settles
returns-clause-settles c = rw (← c.declared-s.ensures.met) c.meet_stretch.ensures.settles
