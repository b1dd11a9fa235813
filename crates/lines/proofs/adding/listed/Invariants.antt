-- `lines::adding::listed` meets its contract.
use mathlib.Core.Path.{◌≡◌}
use lib.ListN.{length}
use Rattle.text.specs.Cursors.{fields_left}
use Rattle.line_forms.specs.Steps.{all_read}
use Rattle.lines.proofs.adding.listed.Given as goal

abbrev pub invariant-loop-d : goal.invariant-loop-d
invariant-loop-d l = all_read (fields_left l.s l.initial.d) ≡ all_read (fields_left l.s l.d)

abbrev pub decreases-loop-d : goal.decreases-loop-d
decreases-loop-d l = length (fields_left l.s l.d)
