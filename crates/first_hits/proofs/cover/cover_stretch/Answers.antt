-- `first_hits::cover::cover_stretch` meets its contract. The invariant: the hits go from those at the start to those now, by the fields met so far.
use Rattle.std.proofs.Common.{rules}
use mathlib.Core.Path.{◌≡◌, refl}
use native.Mathlib.Omega.{arith}
use lib.ListN.{take}
use Rattle.first_hits.proofs.CoverLaws.{covers-none, covers-then}
use Rattle.first_hits.proofs.MetLaws.{stretch-none, stretch-more}
use Rattle.first_hits.proofs.cover.cover_stretch.Goals as goal

pub loop-place-init : goal.loop-place-init
loop-place-init c =
    let none = covers-none c.args.text.now c.args.rows.now c.args.walk.now (stretch-none c.args.s.row c.args.s.first) (take c.args.n c.args.names.now) c.args.hits.now in
    (c.requires.held.0, none, refl)

pub overflow_add-w : goal.overflow_add-w
overflow_add-w c =
    omega (arith, c.requires.held.1, c.loop-place-test.true, c.requires.library.laid.members)

pub cover-requires : goal.cover-requires
cover-requires c =
    record { library = c.requires.library; held = (c.loop-place.invariant.0, omega (arith, c.requires.held.1, c.loop-place-test.true)) }

pub loop-place-preserved : goal.loop-place-preserved
loop-place-preserved c =
    let met = stretch-more c.args.s.row c.args.s.first c.loop-place.place in
    let covered = covers-then c.args.text.now c.args.rows.now c.args.walk.now met (take c.args.n c.args.names.now) c.args.hits.now c.loop-place.hits _ c.loop-place.invariant.1 c.cover.ensures.covered in
    (c.cover.ensures.held_2, covered, search rules)

pub returns : goal.returns
returns c =
    let all : c.loop-place.place ≡ c.args.s.total = omega (arith, c.loop-place.auto.place-end, c.loop-place-test.false) in
    record { held_2 = c.loop-place.invariant.0; covered = rw all at c.loop-place.invariant.1 }
