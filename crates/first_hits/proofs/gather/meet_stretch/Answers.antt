-- `first_hits::gather::meet_stretch` meets its contract. The invariant: the names and hits go from those at the start to those now, by the members met so far.
use Rattle.std.proofs.Common.{rules}
use mathlib.Core.Path.{◌≡◌, refl}
use native.Mathlib.Omega.{arith}
use Rattle.first_hits.proofs.SettleLaws.{carries-none, carries-then}
use Rattle.first_hits.proofs.MetLaws.{stretch-none, stretch-more}
use Rattle.first_hits.proofs.gather.meet_stretch.Goals as goal

pub loop-place-init : goal.loop-place-init
loop-place-init c =
    let none = carries-none c.args.text.now c.args.rows.now c.args.walk.now (stretch-none c.args.s.row c.args.s.first) c.args.names.now c.args.n c.args.hits.now in
    (c.requires.held.0, none, refl, refl)

pub loop-place-preserved : goal.loop-place-preserved
loop-place-preserved c =
    let met = stretch-more c.args.s.row c.args.s.first c.loop-place.place in
    let carried = carries-then c.args.text.now c.args.rows.now c.args.walk.now met c.args.names.now c.args.n c.args.hits.now c.loop-place.names c.loop-place.end c.loop-place.hits c.meet-end.new.names c.meet-end.result c.meet-end.new.hits c.loop-place.invariant.1 c.meet-end.ensures.settles in
    (c.meet-end.ensures.held_2, carried, search rules, search rules)

pub returns : goal.returns
returns c =
    let all : c.loop-place.place ≡ c.args.s.total = omega (arith, c.loop-place.auto.place-end, c.loop-place-test.false) in
    record { held_2 = c.loop-place.invariant.0; settles = rw all at c.loop-place.invariant.1 }
