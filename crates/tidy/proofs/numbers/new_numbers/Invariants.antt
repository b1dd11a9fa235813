-- `new_numbers` meets its contract.
use mathlib.Core.Path.{◌≡◌}
use lib.ListN.{length}
use Rattle.tidy.specs.Numbers.{own_below, NewNumbers}
use Rattle.tidy.proofs.numbers.new_numbers.Given as goal

abbrev pub invariant-loop-t : goal.invariant-loop-t
invariant-loop-t l =
    (length l.numbers ≡ length l.initial.numbers) × (l.left ≡ own_below l.twins l.t) × NewNumbers l.twins l.t l.numbers
