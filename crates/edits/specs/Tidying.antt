-- What the call that tidies a table gives: the refusal of the table, 13, or the text of the tidied table.
use Rattle.std.specs.Prelude.{List, ℕ, length}
use Rattle.objects.specs.Lists.{Bytes}
use Rattle.objects.specs.Table.{Table}
use Rattle.rules.specs.Load.{load}
use Rattle.rules.specs.Asked.{Outcome, say, fitted, on_table, Asked, given}
use Rattle.edits.specs.TableText.{text_of}
use Rattle.edits.specs.Tidy.{tidied}

-- "Write a loaded table out again with only the least-numbered type of each set of identical types."
abbrev pub says_tidied : Table → Outcome
says_tidied T = say (text_of (tidied T))

-- "If the output buffer is too short, refusal 13 is given and nothing is written."
unfoldable pub tidy_outcome : Bytes → ℕ → Outcome
tidy_outcome table room = fitted room (on_table says_tidied (load table))

-- the number, the output and the work area at the return; 1 as for a question
unfoldable pub tidied_call : Bytes → Bytes → List ℕ → Asked
tidied_call table output work = given (tidy_outcome table (length output)) output work
