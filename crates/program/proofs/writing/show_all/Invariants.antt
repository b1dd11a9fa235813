-- `show_all` ends: at each turn the place lies further behind. The marks are clear at each turn, scratch and buffer keep their lengths, and the bytes shown, which
-- are all that was written, are those that are due up to the place.
use Rattle.std.proofs.Common.{◌≡◌, ◌-◌, length}
use Rattle.std.specs.Io.KnownBytes.{Appends}
use Rattle.objects.specs.Rows.{table_of}
use Rattle.answer.specs.Lent.{Lent}
use Rattle.program.proofs.PieceLaws.{Reached}
use Rattle.program.proofs.writing.show_all.Given as goal

abbrev pub invariant-loop-f : goal.invariant-loop-f
invariant-loop-f g l = record {
  same_marks : l.marks ≡ l.fn.marks;
  walk_room : length l.walk ≡ length l.fn.walk;
  hits_room : length l.hits ≡ length l.fn.hits;
  words_room : length l.words ≡ length l.fn.words;
  out_room : length l.out ≡ length l.fn.out;
  lent : Lent l.rows l.walk l.hits l.words;
  reached : Reached (table_of l.text l.rows) l.questions l.at l.total;
  written : Appends (g.W.Write.contents l.fn.to) (g.W.Write.contents l.to) reached.bytes;
}

abbrev pub decreases-loop-f : goal.decreases-loop-f
decreases-loop-f g l = length l.questions - l.at
