use Prim.Native.Nat.{◌+◌}
use mathlib.Core.Path.{◌≡◌}
use lib.ListN.{length, take, drop}
use Rattle.print.specs.Written.{number_line, line_end}
use Rattle.print.proofs.line_length.Given as goal

abbrev pub invariant-loop-x : goal.invariant-loop-x
invariant-loop-x l =
    (l.total + length (line_end (drop l.x-index (take l.n l.ns))) ≡ length (number_line l.word (take l.n l.ns)) + 1)
