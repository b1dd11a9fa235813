-- `text::Cursor::word` meets its contract. What `word_at` ensures, where fields are left.
use borrow.Author.Tests.{not-true, not-false}
use mathlib.Core.Path.{sym, ap, ◌∙◌}
use Rattle.text.specs.Cursors.{exactly}
use Rattle.text.proofs.FieldLaws.{left-more}
use Rattle.text.proofs.WordLaws.{exactly-none}
use Rattle.text.proofs.Cursor.word.Goals as goal

pub returns : goal.returns
returns c =
    c.word_at.ensures ∙ sym (ap (exactly c.args.w.now) (left-more c.args.s.now c.args.self (not-false _ c.if-not-self.false)))

pub returns-then-not-self : goal.returns-then-not-self
returns-then-not-self c = sym (exactly-none c.args.s.now c.args.w.now c.args.self (not-true _ c.if-not-self.true))
