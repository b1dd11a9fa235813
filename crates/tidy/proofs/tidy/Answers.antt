-- `tidy` meets its contract.
use Rattle.tidy.proofs.Aside.{backward-as, numbers_as}
use native.Mathlib.Omega.{arith}
use Rattle.tidy.proofs.tidy.Goals as goal

pub new_numbers-requires : goal.new_numbers-requires
new_numbers-requires c =
    (omega (arith, c.type_count-count.ensures, c.requires.laid.types), omega (arith, c.type_count-count.ensures, c.requires.laid.types), backward-as c.args.text.now c.args.rows.now c.requires c.least_twins.new.twins c.least_twins.ensures c.type_count-count.ensures)

pub say_tidied-requires : goal.say_tidied-requires
say_tidied-requires c =
    let renumbered =
    numbers_as c.args.text.now c.args.rows.now c.requires c.least_twins.new.twins c.least_twins.ensures
    c.type_count-count.ensures c.new_numbers.new.numbers c.new_numbers.ensures.1 in
    record { library = c.requires; twinned = (c.least_twins.ensures, renumbered); rows_in_bounds = (omega (arith, c.requires.laid.types), omega (arith, c.requires.laid.types)) }
