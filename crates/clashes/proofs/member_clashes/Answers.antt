-- `clashes::member_clashes` meets its contract.
use Rattle.std.proofs.Common.{rules}
use mathlib.Core.Path.{◌≡◌, refl, ◌∙◌}
use mathlib.Core.Bool.{Bool, true, false, ◌||◌}
use native.Mathlib.Omega.{arith}
use Rattle.references.proofs.RowKinds.{lines_fit}
use Rattle.clashes.proofs.ClashLaws.{packaged-at, packaged-before, packaged-with, clashes-iface, clashes-named, clashes-other}
use Rattle.clashes.proofs.member_clashes.Goals as goal

by-first : {a : Bool} (b : Bool) → a ≡ true → a ≡ a || b
by-first b e = rw e

by-second : {a : Bool} (b : Bool) → a ≡ false → b ≡ a || b
by-second b e = rw e

pub overflow_add-m : goal.overflow_add-m
overflow_add-m c =
    omega (arith, lines_fit c.args.rows.now c.requires.0 c.args.t c.requires.2, c.first_member-first.ensures, c.requires.3)

pub falls-requires : goal.falls-requires
falls-requires c =
    (packaged-with c.requires.1 c.args.t c.requires.2 c.args.i c.requires.3 c.first_member-first.ensures, omega (arith, lines_fit c.args.rows.now c.requires.0 c.args.t c.requires.2, c.first_member-first.ensures, c.requires.3))

pub repeats-requires : goal.repeats-requires
repeats-requires c =
    (packaged-at c.requires.1 c.args.t c.requires.2 c.args.i c.requires.3 c.first_member-first.ensures, packaged-before c.requires.1 c.args.t c.requires.2 c.args.i c.requires.3 c.first_member-first.ensures, omega (arith, lines_fit c.args.rows.now c.requires.0 c.args.t c.requires.2, c.first_member-first.ensures, c.requires.3), c.requires.1.ordered)

pub in_fields-requires : goal.in_fields-requires
in_fields-requires c =
    (c.requires.0, c.requires.1, packaged-at c.requires.1 c.args.t c.requires.2 c.args.i c.requires.3 c.first_member-first.ensures)

pub repeats-requires-in_default : goal.repeats-requires-in_default
repeats-requires-in_default c =
    (packaged-at c.requires.1 c.args.t c.requires.2 c.args.i c.requires.3 c.first_member-first.ensures, packaged-before c.requires.1 c.args.t c.requires.2 c.args.i c.requires.3 c.first_member-first.ensures, omega (arith, lines_fit c.args.rows.now c.requires.0 c.args.t c.requires.2, c.first_member-first.ensures, c.requires.3), c.requires.1.ordered)

pub returns-in-9 : goal.returns-in-9
returns-in-9 c =
    clashes-iface c.args.text.now c.args.rows.now c.args.t c.requires.2 c.args.i c.requires.3 c.requires.4 c.first_member-first.ensures c.kind_number.ensures c.in-9.is c.falls.ensures

pub returns-then-repeats : goal.returns-then-repeats
returns-then-repeats c = by-first _ c.if-repeats.true ∙ clashes-named c.args.text.now c.args.rows.now c.args.t c.requires.2 c.args.i c.requires.3 c.first_member-first.ensures c.repeats.ensures c.kind_number.ensures c.in-10.is refl refl

pub returns-else-repeats : goal.returns-else-repeats
returns-else-repeats c = by-second _ c.if-repeats.false ∙ clashes-named c.args.text.now c.args.rows.now c.args.t c.requires.2 c.args.i c.requires.3 c.first_member-first.ensures c.repeats.ensures c.kind_number.ensures c.in-10.is c.type_word.ensures c.in_fields.ensures

pub returns-in_default : goal.returns-in_default
returns-in_default c =
    clashes-other c.args.text.now c.args.rows.now c.args.t c.requires.2 c.args.i c.requires.3 c.first_member-first.ensures c.repeats-in_default.ensures c.kind_number.ensures (search rules) (search rules)
