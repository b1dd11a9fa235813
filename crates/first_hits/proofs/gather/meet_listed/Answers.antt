-- `first_hits::gather::meet_listed` meets its contract. A stretch of no members leaves all as it is.
use mathlib.Core.Path.{◌≡◌, sym, ◌∙◌}
use mathlib.Core.List.{[]}
use native.Mathlib.Omega.{arith}
use Rattle.first_hits.specs.Hits.{iface_kind, parts_met}
use Rattle.first_hits.proofs.SettleLaws.{carries-none}
use Rattle.first_hits.proofs.MetLaws.{stretch-none}
use Rattle.first_hits.proofs.gather.meet_listed.Goals as goal

pub returns-then-s-eq0-clause-settles : goal.returns-then-s-eq0-clause-settles
returns-then-s-eq0-clause-settles c =
    let none : parts_met c.args.rows.now c.args.walk.now iface_kind c.args.i ≡ [] = sym c.parts-s.ensures.met ∙ rw c.if-s-eq0.true (stretch-none c.parts-s.result.row c.parts-s.result.first) in
    carries-none c.args.text.now c.args.rows.now c.args.walk.now none c.args.names.now c.args.n c.args.hits.now

pub meet_stretch-requires-clause-held : goal.meet_stretch-requires-clause-held
meet_stretch-requires-clause-held c = (c.requires.held.0, c.parts-s.ensures.within (omega arith) _ c.requires.library c.requires.held.1)

pub returns-clause-settles : goal.returns-clause-settles
returns-clause-settles c = rw (← c.parts-s.ensures.met) c.meet_stretch.ensures.settles
