-- `clashes::meet_once` meets its contract.
use mathlib.Core.Path.{refl}
use native.Mathlib.Omega.{arith}
use Rattle.objects.specs.Rows.{word_at}
use Rattle.clashes.proofs.SeenLaws.{readied-beyond, readied-before, readied-now}
use Rattle.clashes.proofs.meet_once.Goals as goal

pub returns-then-type_count-u : goal.returns-then-type_count-u
returns-then-type_count-u c =
    readied-beyond c.args.text.now c.args.rows.now c.args.u _ _ c.requires.3 c.type_count.ensures c.if-type_count-u.true

pub bounds-done-at : goal.bounds-done-at
bounds-done-at c = omega (arith, c.requires.2, c.requires.0.types, c.type_count.ensures, c.if-type_count-u.false)

pub meet_fields-requires : goal.meet_fields-requires
meet_fields-requires c = (c.requires.0, rw c.type_count.ensures at c.if-type_count-u.false, c.requires.1)

pub bounds-done-at-then-done-at-eq0 : goal.bounds-done-at-then-done-at-eq0
bounds-done-at-then-done-at-eq0 c = omega (arith, c.requires.2, c.requires.0.types, c.type_count.ensures, c.if-type_count-u.false)

pub returns-then-done-at-eq0 : goal.returns-then-done-at-eq0
returns-then-done-at-eq0 c = readied-now c.args.text.now c.args.rows.now c.args.u _ _ _ c.requires.3 c.meet_fields.ensures

pub returns-else-done-at-eq0 : goal.returns-else-done-at-eq0
unfolding word_at
returns-else-done-at-eq0 c = readied-before c.args.text.now c.args.rows.now c.args.u _ _ c.requires.3 refl c.if-done-at-eq0.false
