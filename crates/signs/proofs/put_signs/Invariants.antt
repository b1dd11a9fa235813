-- `signs::put_signs` meets its contract. The invariant: the members before m are signed.
use mathlib.Core.Path.{◌≡◌}
use lib.ListN.{length}
use Rattle.signs.specs.Signing.{Signing}
use Rattle.signs.proofs.put_signs.Given as goal

abbrev pub invariant-loop-m : goal.invariant-loop-m
invariant-loop-m l = (length l.rows ≡ length l.initial.rows) × Signing l.text l.initial.rows l.m l.rows
