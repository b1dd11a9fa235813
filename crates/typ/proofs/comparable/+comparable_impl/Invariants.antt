-- What falls is how many types have a smaller rank than the one that is judged: fewer than there are types.
use Rattle.std.proofs.Common.{◌≡◌, length}
use Rattle.typ.specs.Contents.{MetComparable}
use Rattle.typ.proofs.Lower.{lower}
use Rattle.typ.proofs.ContentLaws.{Passed}
use Rattle.typ.proofs.comparable.+comparable_impl.Given as goal

abbrev pub decreases-comparable_impl : goal.decreases-comparable_impl
decreases-comparable_impl l = lower l.rows.now l.t

abbrev pub invariant-loop-i : goal.invariant-loop-i
invariant-loop-i l = (length l.met ≡ length l.initial.met) × MetComparable l.text l.rows l.met × Passed l.text l.rows l.t l.i
