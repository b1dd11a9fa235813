-- The growth promise of the call: two texts, an old question line and the line that puts the question again.
use Rattle.std.specs.Prelude.{◌≡◌, false, List, ◌++◌, ℕ, ◌≤◌, pos, length, drop, replicate}
use Rattle.std.proofs.Math.Option.{some}
use Rattle.objects.specs.Bounds.{work_words}
use Rattle.objects.specs.Lists.{Bytes}
use Rattle.rules.specs.Question.{Question, question_of}
use Rattle.rules.specs.Answer.{answer, answer_bytes}
use Rattle.rules.specs.Asked.{wrong_second, outcome, say, Asked, asked}
use Rattle.edits.specs.Carried.{carry_question}
use Rattle.growth.specs.Grown.{GrownTexts}
use Rattle.growth.specs.Promise.{Promised}

-- what a host lends beside the table text: the question line, the answer buffer and the work area
pub record Lent : Type 0 where
  pub line : Bytes
  pub buffer : Bytes
  pub work : List ℕ

-- all that a call gives
abbrev pub called : Bytes → Lent → Asked
called text c = asked text c.line c.buffer c.work

-- a call that answers with these bytes: their length, the buffer with them in front, a clear work area
abbrev pub answers_with : Bytes → Lent → Asked
answers_with bytes c = record { number = pos (length bytes); answer = bytes ++ drop (length bytes) c.buffer; work = replicate (length c.work) 0 }

module _ {a b : Bytes} (g : GrownTexts a b) (q : Question) where
  abbrev pub old_bytes : Bytes
  old_bytes = answer_bytes (answer g.old q)

  -- "The old question is put again, its type and package numbers carried"
  abbrev pub put_again : Question
  put_again = carry_question g.numbers.ty g.numbers.pk q

  abbrev pub new_bytes : Bytes
  new_bytes = answer_bytes (answer g.new put_again)

  -- the two calls: lines of right form (11), in N a second type of kind iface (12), room for both answers (13); "refusal 1 is due neither time"
  pub record PutAgain (old new : Lent) : Type 0 where
    pub asks : question_of g.old old.line ≡ some q
    pub asks_again : question_of g.new new.line ≡ some put_again
    pub second : wrong_second g.old q ≡ false
    pub fits : length old_bytes ≤ length old.buffer
    pub fits_again : length new_bytes ≤ length new.buffer
    pub words : work_words ≤ length old.work
    pub words_again : work_words ≤ length new.work

  -- both calls answer, with the answers that the promise is about
  pub record Said (old new : Lent) : Type 0 where
    pub outcome_before : outcome a old.line (length old.buffer) ≡ say old_bytes
    pub outcome_after : outcome b new.line (length new.buffer) ≡ say new_bytes
    pub before : called a old ≡ answers_with old_bytes old
    pub after : called b new ≡ answers_with new_bytes new
    pub promised : Promised g.numbers g.old g.new q
