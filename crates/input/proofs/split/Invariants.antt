-- `input::split` meets its contract.
use mathlib.Core.Path.{◌≡◌}
use Prim.Native.Nat.{◌-◌, ◌≤◌}
use lib.ListN.{length, take, drop}
use Rattle.text.specs.Lines.{pieces}
use Rattle.rules.specs.Typeask.{input_of}
use Rattle.input.proofs.InputLaws.{front}
use Rattle.input.proofs.split.Given as goal

abbrev pub invariant-loop-at : goal.invariant-loop-at
invariant-loop-at l =
    (input_of (pieces l.input) ≡ front (take l.at l.input) (input_of (pieces (drop l.at l.input)))) × (l.at ≤ length l.input)

abbrev pub decreases-loop-at : goal.decreases-loop-at
decreases-loop-at l = length l.input - l.at
