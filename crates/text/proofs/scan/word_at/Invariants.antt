-- `text::scan::word_at` meets its contract. The invariant: the word is the next field if its bytes from `j` on are the field from `i` on. The measure is what is left of the word.
use mathlib.Core.Path.{◌≡◌}
use lib.ListN.{drop}
use Rattle.text.specs.Lines.{fields}
use Rattle.text.specs.Cursors.{part, exactly}
use Rattle.text.proofs.scan.word_at.Given as goal

abbrev pub invariant-loop-j : goal.invariant-loop-j
invariant-loop-j l = exactly l.w (fields (part l.s l.at l.end)) ≡ exactly (drop l.j l.w) (fields (part l.s l.i l.end))
